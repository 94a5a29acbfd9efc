use Rattle.std.proofs.Common.{◌≡◌, ◌∙◌, inl, ℕ, List, [], ap, sym, subst, take}
use Rattle.std.proofs.lemmas.List.{take_all}
use Rattle.sf_run.specs.outcome.Ending.TheVariants.{End}
use Rattle.sf_run.specs.Scanner.{standing}
use Rattle.sf_run.specs.Standing.{Gives}
use Rattle.sf_run.proofs.Refusals.{after_fine}
use Rattle.sf_read.specs.Pieces.{pieces_joined}
use Rattle.sf_read.proofs.Ended.{told_within}
use Rattle.sf_read.proofs.InPieces.{Fed, ended_on, fed_fine, fed_on, joined_more}
use Rattle.sf_read.proofs.pieces.scan_pieces.Goals as goal

pub loop-piece-init : goal.loop-piece-init
loop-piece-init c = (
  inl c.in_ok-scanner.ensures.after,
  λ sum. after_fine _ _ _ [] c.in_ok-scanner.ensures.after,
)

pub loop-piece-preserved : goal.loop-piece-preserved
loop-piece-preserved c =
    let ds = c.args.format.now in
    let x = pieces_joined (take c.loop-piece.piece-index c.args.pieces.now) in
    let stays : (z : List ℕ) → Gives ds c.args.limit (standing c.loop-piece.scanner) z End
    → standing c.feed.new.self ≡ standing c.loop-piece.scanner =
    λ z given. ap standing (c.feed.ensures.unchanged ds c.args.limit z End given) in (
      subst (Fed ds c.args.limit (standing c.feed.new.self))
          (sym (joined_more c.args.pieces.now c.loop-piece.piece-index _ c.loop-piece-test.true))
          (fed_on ds c.args.limit (standing c.loop-piece.scanner) (standing c.feed.new.self) x _ c.feed.result.state
          (λ fine after. c.feed.ensures.after ds c.args.limit x fine after) c.feed.ensures.stopped
          (λ after ended z ending. c.feed.ensures.gives ds c.args.limit x z ending after ended) stays c.loop-piece.invariant.0),
      λ sum. fed_fine ds c.args.limit (standing c.loop-piece.scanner) (standing c.feed.new.self) x
          (λ after. c.feed.ensures.bounded ds c.args.limit x sum after) stays c.loop-piece.invariant.0 (c.loop-piece.invariant.1 sum),
    )

pub returns-clause-report : goal.returns-clause-report
returns-clause-report c =
    let ds = c.args.format.now in
    let x = pieces_joined c.args.pieces.now in
    let fed : Fed ds c.args.limit (standing c.loop-piece.scanner) x =
    subst (λ pieces. Fed ds c.args.limit (standing c.loop-piece.scanner) (pieces_joined pieces))
    (take_all c.loop-piece.piece-index c.args.pieces.now c.loop-piece-test.false) c.loop-piece.invariant.0 in
    let stays : (z : List ℕ) → Gives ds c.args.limit (standing c.loop-piece.scanner) z End
    → standing c.end.new.self ≡ standing c.loop-piece.scanner =
    λ z given. ap standing (c.end.ensures.unchanged ds c.args.limit z End given) in
    c.in-Ok.ensures.gives ds c.args.limit x End
    (ended_on ds c.args.limit (standing c.loop-piece.scanner) (standing c.end.new.self) x (λ after. c.end.ensures.gives ds c.args.limit x
    after)
    stays fed)

pub returns-clause-bounded : goal.returns-clause-bounded
returns-clause-bounded c sum =
    told_within c.args.format.now c.args.limit (pieces_joined c.args.pieces.now) End c.in-Ok.scanned.report (returns-clause-report c)
    (c.in-Ok.ensures.memory ∙ c.end.ensures.memory ∙ c.loop-piece.invariant.1 sum)
