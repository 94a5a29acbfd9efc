use Rattle.std.proofs.Common.{◌∙◌}
use Rattle.sf_run.proofs.Openers.{byte_ends}
use Rattle.sf_run.proofs.Pieces.{some_first}
use Rattle.sf_run.proofs.directive.whole_byte.Goals as goal

pub returns-in-Some : goal.returns-in-Some
returns-in-Some c n =
    let first = some_first c.args.piece.now c.in-Some.b.now c.in-Some.ensures.value in
    byte_ends c.args.due n c.args.piece.now c.ranges.due.fits first.0 (first.1 ∙ c.if-b-due.true)
