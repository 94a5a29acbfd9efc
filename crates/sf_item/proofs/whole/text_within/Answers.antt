use Rattle.std.proofs.Common.{◌≤◌, ℕ, List, ⊎_elim, ap, length, arith}
use Rattle.std.proofs.lemmas.Bool.{cases_lt}
use Rattle.std.proofs.lemmas.List.{length-take}
use Rattle.std.proofs.lemmas.Option.{same_Some}
use Rattle.sf_base.specs.Bytes.{is_ink}
use Rattle.sf_item.proofs.Sights.{run_by_longer}
use Rattle.sf_item.proofs.whole.text_within.Goals as goal

pub returns : goal.returns
returns c =
    let front : List ℕ = c.args.front.now in
    let piece : List ℕ = c.args.piece.now in
    let longer : List ℕ = c.cut.result.now in
    let short = c.if-front.false in
    let part = ap length c.requires in
    let fits : length front ≤ length piece = omega (arith, part, length-take (length front) piece) in
    let le : length front ≤ length longer =
    ⊎_elim (λ below. let sight = same_Some _ _ (c.cut.ensures.whole below) in omega (arith, sight, short))
    (λ all. omega (arith, all, fits)) (cases_lt (length longer) (length piece)) in
    let run = run_by_longer is_ink front longer piece c.requires c.cut.ensures.front le in
    let own = c.text_run-2.ensures.count in
    let least = c.min.ensures in
    omega (arith, run, own, least)
