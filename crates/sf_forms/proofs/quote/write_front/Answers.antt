use Rattle.std.proofs.Common.{◌≡◌, ◌+◌, length, min, set, length-set, refl, arith}
use Rattle.std.specs.List.{prefix_len}
use lib.Count.{count_trailing_zeros}
use Rattle.sf_forms.specs.Quotes.{is_plain}
use Rattle.sf_forms.proofs.Quoting.{front_by_mask}
use Rattle.sf_forms.proofs.Short.{begun_in_place}
use Rattle.sf_forms.proofs.quote.write_front.Goals as goal

pub returns-clause-count : goal.returns-clause-count
returns-clause-count c =
    let begun = set c.args.buf.now c.args.at 34 in
    let count : min (length c.args.bytes.now) (count_trailing_zeros 64 c.odd_mask-odd.result) ≡ prefix_len is_plain c.args.bytes.now =
    front_by_mask is_plain begun c.copy_over.new.buf c.args.bytes.now _ (c.args.at + 1) c.odd_mask-odd.result
    (omega (arith, length-set c.args.buf.now c.args.at 34)) c.copy_over.ensures
    (omega (arith, c.copy_over.auto.buf, length-set c.args.buf.now c.args.at 34)) c.requires.short c.odd_mask-odd.ensures in
    let is = c.min.ensures in
    cc

pub returns-clause-written : goal.returns-clause-written
returns-clause-written c =
    begun_in_place c.args.buf.now (set c.args.buf.now c.args.at 34) c.copy_over.new.buf c.args.bytes.now _ c.args.at (omega arith) refl
    c.copy_over.ensures
