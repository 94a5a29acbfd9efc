use Rattle.std.proofs.Common.{◌≤◌, arith}
use Rattle.sf_run.specs.Memory.{capacity_of}
use Rattle.sf_read.proofs.AtOnce.{seen_alone, seen_roomier}
use Rattle.sf_read.proofs.whole.scan_at_once.Goals.{then-ends_with+in_default, else-ends_with}
use Rattle.sf_read.proofs.whole.scan_at_once.Goals as goal

pub returns-then-is_some-clause-answers : goal.returns-then-is_some-clause-answers
returns-then-is_some-clause-answers c = λ done.
    c.scan_with_newline-outcome.ensures.answers (seen_alone c.args.format.now c.destinations-destinations.ensures.proper c.args.limit
    c.args.text.now (capacity_of c.args.store.now) done)

pub returns-clause-ended : goal.returns-clause-ended
returns-clause-ended c = λ short seen.
    let roomier : capacity_of c.args.store.now ≤ capacity_of c.if-ends_with.store = elim c.if-ends_with.branch [
      | then-ends_with+in_default w ↦ grind (arith, w.scan_in_place-then-ends_with.ensures.room, w.clear-then-ends_with.ensures, w.store-is)
      | else-ends_with w ↦ grind (arith, w.store-is)
    ] in
    c.scan_with_newline.ensures.answers (seen_roomier c.args.format.now c.args.limit c.args.text.now
    (capacity_of c.args.store.now) (capacity_of c.if-ends_with.store) roomier seen)

pub returns-clause-answers : goal.returns-clause-answers
returns-clause-answers c = λ done.
    returns-clause-ended c (omega (arith, c.if-text-ge-BLOCK.false)) (seen_alone c.args.format.now
    c.destinations-destinations.ensures.proper c.args.limit c.args.text.now (capacity_of c.args.store.now) done)
