use Rattle.std.proofs.Common.{◌+◌, ◌++◌, ℕ, List, take, drop, Option, refl, ap, subst, ◌∙◌, arith, is_some}
use Rattle.std.specs.Prelude.{slice_get}
use Rattle.std.proofs.lemmas.Option.{slice_get_within}
use Rattle.sf_run.specs.declared.directive.Finished.{Finished}
use Rattle.sf_run.specs.declared.directive.Phase.{Phase}
use Rattle.sf_run.specs.Phases.{Shows, end_of, slot_in}
use Rattle.sf_run.specs.Pieces.{AnswersBy}
use Rattle.sf_run.specs.Standing.{Standing, TakesAll, Waits}
use Rattle.sf_run.specs.Texts.{closing_text, item_of, opened_with}
use Rattle.sf_run.specs.Scanner.{kept_by, standing}
use Rattle.sf_run.proofs.Coming.{answer_advances, ended_advances, waits_advance}
use Rattle.sf_run.proofs.Moves.{answer_follows, if_none, limit_follows, waits_follow}
use Rattle.sf_run.proofs.Pieces.{end_is, front_ends, stores_front, uses_front}
use Rattle.sf_run.proofs.Refusals.{runs_out_refuses}
use Rattle.sf_run.proofs.Slots.{if_some, own_text}
use Rattle.sf_run.proofs.scanner.Scanner.hand.Goals as goal

pub run_on-run-requires : goal.run_on-run-requires
run_on-run-requires g c = grind (arith, if_some, own_text)

pub fail-requires-clause-current : goal.fail-requires-clause-current
fail-requires-clause-current g c = slice_get_within _ _ _ c.requires.current

pub returns-then-taken-room-clause-same : goal.returns-then-taken-room-clause-same
returns-then-taken-room-clause-same g c sound fine z =
    let s = c.args.self.now in
    let d = c.args.directive.now in
    let run = c.run_on-run.result in
    let piece : List ℕ = c.args.piece.now in
    let within = c.run_on-run.ensures.suits.within in
    let more = c.if-taken-room.true in
    let few = c.split_at.ensures.front_len in
    let least = c.min.ensures in
    let most = c.max.ensures in
    limit_follows (standing c.fail.new.self) (standing s) d c.requires.current c.requires.waits c.fail.ensures
    (omega (arith, s.bounded, more, within, few, least, most)) (piece ++ z)
    (λ q shows.
    let all = uses_front d q s.tally.used c.min.result piece c.split_at.result.0.now run c.split_at.ensures.front within
    (c.run_on-run.ensures.answers q sound shows) z in
    omega (arith, all, more))

pub returns-then-not-take_all-clause-memory : goal.returns-then-not-take_all-clause-memory
returns-then-not-take_all-clause-memory g c sound out =
    let s = c.args.self.now in
    let d = c.args.directive.now in
    let run = c.run_on-run.result in
    let piece : List ℕ = c.args.piece.now in
    let within = c.run_on-run.ensures.suits.within in
    let few = c.split_at.ensures.front_len in
    let least = c.min.ensures in
    let fits = c.if-taken-room.false in
    runs_out_refuses (standing c.take_all.new.self) (standing s) d run.before run.item piece c.requires.current c.requires.waits
    c.if-not-take_all.ensures.refused
    (omega (arith, within, few, least)) (omega (arith, s.bounded, fits))
    (λ q shows z. uses_front d q s.tally.used c.min.result piece c.split_at.result.0.now run c.split_at.ensures.front within
    (c.run_on-run.ensures.answers q sound shows) z)
    (λ q shows j below. stores_front d q s.tally.used c.min.result piece c.split_at.result.0.now run c.split_at.ensures.front within
    (c.run_on-run.ensures.answers q sound shows)
    (slot_in run.phase) refl c.if-not-take_all.ensures.text j below)

pub returns-in_default-clause-same : goal.returns-in_default-clause-same
returns-in_default-clause-same g c sound fine z =
    let s = c.args.self.now in
    let d = c.args.directive.now in
    let run = c.run_on-run.result in
    let piece : List ℕ = c.args.piece.now in
    let front : List ℕ = c.split_at.result.0.now in
    let least = c.min.ensures in
    waits_follow (standing c.take_all.new.self) (standing s) d run c.min.result piece front c.split_at-3.result.0.now c.requires.current
    c.requires.waits c.split_at.ensures.front
    (omega (arith, least)) (c.run_on-run.ensures.suits.all c.in_default.is)
    (c.split_at-3.ensures.front ∙ ap (take run.item) c.split_at-2.ensures.back) c.if-not-take_all.ensures.taken
    (λ q shows. subst (λ (o : Option Finished). AnswersBy o d q s.tally.used front run) c.in_default.is
    ((c.run_on-run.ensures.answers q sound shows).goes)) z

pub returns-in_default-clause-settled : goal.returns-in_default-clause-settled
returns-in_default-clause-settled g c _ =
    let s = c.args.self.now in
    let d = c.args.directive.now in
    let new = c.take_all.new.self in
    let takes = c.if-not-take_all.ensures.taken in
    if_none new.ended (Waits new.directives.now new.passed new.phase) (record {
      under_way = d;
      current = ap (λ ds. slice_get ds new.passed) takes.keeps.directives ∙ ap (slice_get s.directives.now) takes.passed
          ∙ c.requires.current;
      can_take = λ q proper shows. c.run_on-run.ensures.suits.more c.in_default.is q proper
          (subst (λ (p : Phase). Shows d p q) takes.phase shows);
    })

pub returns-clause-same : goal.returns-clause-same
returns-clause-same g c sound fine z =
    let s = c.args.self.now in
    let d = c.args.directive.now in
    let run = c.run_on-run.result in
    let piece : List ℕ = c.args.piece.now in
    let front : List ℕ = c.split_at.result.0.now in
    let m : ℕ = c.min.result in
    let mid : Standing = standing c.take_all.new.self in
    let n : ℕ = run.before + run.item in
    let least = c.min.ensures in
    let own = c.split_at-3.ensures.front ∙ ap (take run.item) c.split_at-2.ensures.back in
    answer_follows (standing c.close.new.self) mid (standing s) d run c.in-Some.finished front (piece ++ z)
    (drop n piece ++ z) c.requires.current c.requires.waits
    (subst (λ g. TakesAll mid (standing s) run.phase n (opened_with (slot_in run.phase) g (kept_by s).opened)) own
    c.if-not-take_all.ensures.taken) c.close.ensures.ends
    c.run_on-run.ensures.suits.slot (end_is d run.phase run.ends c.in-Some.finished c.in-Some.is c.run_on-run.ensures.suits.end)
    (λ q shows.
    let a = subst (λ (o : Option Finished). AnswersBy o d q s.tally.used front run) c.in-Some.is
    ((c.run_on-run.ensures.answers q sound shows).goes) in
    front_ends d q s.tally.used m n piece front (end_of (closing_text d (item_of d q ++ take run.item (drop run.before front)))
    c.in-Some.finished)
    c.split_at.ensures.front a z)

pub returns-in_default-clause-comes : goal.returns-in_default-clause-comes
returns-in_default-clause-comes g c sound =
    let s = c.args.self.now in
    let d = c.args.directive.now in
    let run = c.run_on-run.result in
    let piece : List ℕ = c.args.piece.now in
    let front : List ℕ = c.split_at.result.0.now in
    let least = c.min.ensures in
    waits_advance (standing c.take_all.new.self) (standing s) d run c.min.result piece front c.split_at-3.result.0.now c.requires.current
    c.requires.waits c.split_at.ensures.front
    (omega (arith, least)) (c.run_on-run.ensures.suits.all c.in_default.is)
    (c.split_at-3.ensures.front ∙ ap (take run.item) c.split_at-2.ensures.back) c.if-not-take_all.ensures.taken
    (λ q shows. subst (λ (o : Option Finished). AnswersBy o d q s.tally.used front run) c.in_default.is
    ((c.run_on-run.ensures.answers q sound shows).goes))

pub returns-clause-comes : goal.returns-clause-comes
returns-clause-comes g c sound =
    let s = c.args.self.now in
    let d = c.args.directive.now in
    let run = c.run_on-run.result in
    let piece : List ℕ = c.args.piece.now in
    let front : List ℕ = c.split_at.result.0.now in
    let m : ℕ = c.min.result in
    let mid : Standing = standing c.take_all.new.self in
    let n : ℕ = run.before + run.item in
    let least = c.min.ensures in
    let within = c.run_on-run.ensures.suits.within in
    let few = c.split_at.ensures.front_len in
    let own = c.split_at-3.ensures.front ∙ ap (take run.item) c.split_at-2.ensures.back in
    answer_advances (standing c.close.new.self) mid (standing s) d run c.in-Some.finished front piece c.requires.current
    (subst (λ g. TakesAll mid (standing s) run.phase n (opened_with (slot_in run.phase) g (kept_by s).opened)) own
    c.if-not-take_all.ensures.taken) c.close.ensures.ends
    c.run_on-run.ensures.suits.slot (end_is d run.phase run.ends c.in-Some.finished c.in-Some.is c.run_on-run.ensures.suits.end)
    (omega (arith, within, few, least))
    (λ q shows z.
    let a = subst (λ (o : Option Finished). AnswersBy o d q s.tally.used front run) c.in-Some.is
    ((c.run_on-run.ensures.answers q sound shows).goes) in
    front_ends d q s.tally.used m n piece front (end_of (closing_text d (item_of d q ++ take run.item (drop run.before front)))
    c.in-Some.finished)
    c.split_at.ensures.front a z)

pub returns-then-taken-room-clause-comes : goal.returns-then-taken-room-clause-comes
returns-then-taken-room-clause-comes g c _ = ended_advances (standing c.fail.new.self) (standing c.args.self.now) c.args.piece.now _
    (ap is_some c.fail.ensures.ended)

pub returns-then-not-take_all-clause-comes : goal.returns-then-not-take_all-clause-comes
returns-then-not-take_all-clause-comes g c _ =
    ended_advances (standing c.take_all.new.self) (standing c.args.self.now) c.args.piece.now _
    (ap is_some c.if-not-take_all.ensures.refused.ended)
