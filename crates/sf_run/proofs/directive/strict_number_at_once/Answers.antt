use Rattle.std.proofs.Common.{not, ap, ◌∙◌}
use Rattle.sf_report.specs.Machine.{shape_skips}
use Rattle.sf_run.proofs.Pieces.{ends_unskipped}
use Rattle.sf_run.proofs.directive.strict_number_at_once.Goals as goal

pub returns : goal.returns
returns c k is n =
    let own = c.number_by.ensures in
    ends_unskipped k is.plain n c.args.piece.now c.number_by.result (ap shape_skips is.shape ∙ ap not c.requires.strict) (own.answers k is)
    (own.fits k is)
