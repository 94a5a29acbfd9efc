use Rattle.std.proofs.Common.{◌∙◌, arith}
use Rattle.sf_run.proofs.Openers.{row_ends}
use Rattle.sf_run.proofs.Pieces.{some_first}
use Rattle.sf_run.proofs.directive.byte_at_once.Goals as goal

pub returns-in-Some : goal.returns-in-Some
returns-in-Some c d is way n =
    let first = some_first c.args.piece.now c.in-Some.b.now c.in-Some.ensures.value in
    let there = first.1 ∙ c.if-b-row.true in
    let fits = c.type_inv.piece 0 in
    row_ends d c.args.row.now n c.args.piece.now is way (omega (arith, fits, there)) first.0 there
