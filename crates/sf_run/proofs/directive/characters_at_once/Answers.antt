use Rattle.std.proofs.Common.{sym, ap, subst}
use Rattle.std.specs.Prelude.{IfSome}
use Rattle.sf_format.specs.declared.directive.Shape.{Shape}
use Rattle.sf_item.specs.Wholes.{ItemWithin}
use Rattle.sf_report.specs.Machine.{shape_skips}
use Rattle.sf_run.proofs.Pieces.{ends_unskipped}
use Rattle.sf_run.proofs.directive.characters_at_once.Goals as goal

pub returns : goal.returns
returns c k shape is n =
    let piece = c.args.piece.now in
    let item = subst (λ (s : Shape). IfSome c.characters_item.result (ItemWithin s k.width piece)) (sym shape)
    (c.characters_item.ensures.has k.width is.width) in
    let own = c.bytes_by.ensures in
    ends_unskipped k is.plain n piece c.bytes_by.result (ap shape_skips shape) (own.answers k is item) (own.fits k is item)
