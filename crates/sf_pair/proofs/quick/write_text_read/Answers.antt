use Rattle.std.proofs.Common.{◌≡◌, ℕ, ◌+◌, Bool, true, cond, ◌&&◌, nat_lt, nat_le, length, ap, sym, ◌∙◌}
use Rattle.std.specs.List.{list_all, slice_range}
use Rattle.sf_base.specs.Bytes.{is_ink}
use Rattle.sf_format.specs.declared.directive.Shape.{Shape}
use Rattle.sf_print.proofs.InPlace.{ends_at}
use Rattle.sf_base.specs.Data.{Bytes}
use Rattle.sf_pair.specs.Fits.{is_byte, text_fits, item_fits, column_fits}
use Rattle.sf_pair.specs.Groups.{width_of}
use Rattle.sf_pair.proofs.FitTests.{all_bytes}
use Rattle.sf_pair.proofs.InPlace.{written_part}
use Rattle.sf_pair.proofs.Paired.{and_so}
use Rattle.sf_pair.proofs.quick.write_text_read.Goals as goal

pub returns-clause-fits : goal.returns-clause-fits
returns-clause-fits c =
    let bytes = c.args.bytes.now in
    let scan = c.args.scan.now in
    let new = c.write_plain_bytes.new.buf in
    let end = c.in_ok-end in
    let between : (nat_lt 0 (length bytes) && nat_le (length bytes) (width_of scan)) ≡ true =
    ap (λ (w : ℕ). nat_lt 0 (length bytes) && nat_le (length bytes) w) (sym c.width_of.ensures.value)
    ∙ sym c.is_between.ensures ∙ c.if-not-is_between.false in
    let place : end.end ≡ c.args.at + length bytes =
    ends_at c.args.buf.now new bytes c.args.at end.end c.requires end.ensures.within end.ensures.written in
    let piece : slice_range new c.args.at (c.args.at + length bytes) ≡ bytes =
    ap (slice_range new c.args.at) (sym place)
    ∙ written_part c.args.buf.now new bytes c.args.at end.end c.requires end.ensures.within end.ensures.written in
    let ink : list_all is_ink bytes ≡ true = ap (list_all is_ink) (sym piece) ∙ sym c.are_ink.ensures ∙ c.if-not-are_ink.false in
    ap (λ (t : Bool). cond t (column_fits c.args.conv.now scan (Bytes bytes)) (item_fits c.args.conv.now scan (Bytes bytes)))
    c.if-scan.false
    ∙ and_so (list_all is_byte bytes) (text_fits scan.shape (width_of scan) bytes) (all_bytes bytes (λ i. (c.type_inv.bytes i).fits))
    (ap (λ (s : Shape). text_fits s (width_of scan) bytes) c.in-Text.is
    ∙ and_so (nat_lt 0 (length bytes) && nat_le (length bytes) (width_of scan)) (list_all is_ink bytes) between ink)
