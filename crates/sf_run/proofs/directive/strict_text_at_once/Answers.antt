use Rattle.std.proofs.Common.{not, ap, ◌∙◌}
use Rattle.sf_report.specs.Machine.{shape_skips}
use Rattle.sf_run.proofs.Pieces.{ends_unskipped, item_if}
use Rattle.sf_run.proofs.directive.strict_text_at_once.Goals as goal

pub returns : goal.returns
returns c k lead strict shape is n =
    let piece = c.args.piece.now in
    let item = item_if k.shape _ k.width piece c.text_item.result shape (c.text_item.ensures lead k.width is.width) in
    let own = c.bytes_by.ensures in
    ends_unskipped k is.plain n piece c.bytes_by.result (ap shape_skips shape ∙ ap not strict) (own.answers k is item) (own.fits k is item)
