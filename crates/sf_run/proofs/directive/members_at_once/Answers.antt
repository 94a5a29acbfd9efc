use Rattle.std.proofs.Common.{◌≡◌, ◌∙◌, false, sym, ap, subst}
use Rattle.std.specs.Prelude.{IfSome, is_some}
use Rattle.sf_base.specs.Kinds.{bounds_of}
use Rattle.sf_format.specs.declared.directive.Directive.{Directive}
use Rattle.sf_format.specs.declared.directive.Directive.TheVariants.{Conv}
use Rattle.sf_format.specs.declared.directive.Shape.{Shape}
use Rattle.sf_format.specs.declared.layout.Row.{Row}
use Rattle.sf_format.specs.declared.layout.Way.TheVariants as ways
use Rattle.sf_format.specs.Layout.{row_of}
use Rattle.sf_item.specs.Wholes.{ItemWithin}
use Rattle.sf_report.specs.Machine.{shape_skips}
use Rattle.sf_run.specs.Pieces.{EndsAtOnce, IsSetItem, IsTextRow, IsTextShape}
use Rattle.sf_run.proofs.Pieces.{ends_unskipped}
use Rattle.sf_run.proofs.Stages.{way_plain}
use Rattle.sf_run.proofs.directive.members_at_once.Goals as goal

pub returns : goal.returns
returns c d at is way n =
    let piece = c.args.piece.now in
    let own : IsSetItem d c.args.row.now.width piece c.in_ok-item.item = c.in_ok-item.ensures d at in
    let k = own.conversion in
    let row : c.args.row.now ≡ row_of (Conv k) = is ∙ ap row_of own.is in
    let plain : k.column ≡ false = way_plain k.column k.shape (is_some (bounds_of k.kind)) ways.Members
    (sym (ap (λ (r : Row). r.way) row) ∙ way) (λ e. cc) in
    let texts : IsTextRow c.args.row.now k = record {
      plain = plain;
      shape = subst (λ (s : Shape). IsTextShape s) (sym own.shape) tt;
      slot = sym (ap (λ (r : Row). r.slot) row);
      width = ap (λ (r : Row). r.width) row;
    } in
    let item : ItemWithin k.shape k.width piece c.in_ok-item.item =
    subst (λ (s : Shape). ItemWithin s k.width piece c.in_ok-item.item) (sym own.shape) (own.item k.width texts.width) in
    let by = c.bytes_by.ensures in
    subst (λ (e : Directive). IfSome c.bytes_by.result (EndsAtOnce e n piece)) (sym own.is)
    (ends_unskipped k plain n piece c.bytes_by.result (ap shape_skips own.shape) (by.answers k texts item) (by.fits k texts item))
