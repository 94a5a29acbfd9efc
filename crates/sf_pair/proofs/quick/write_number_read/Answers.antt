use Rattle.std.proofs.Common.{◌≤◌, arith}
use Rattle.sf_base.specs.Data.{datum_of_number}
use Rattle.sf_print.specs.texts.Text.{value_text}
use Rattle.sf_print.proofs.InPlace.{ends_at}
use Rattle.sf_pair.proofs.InPlace.{written_part}
use Rattle.sf_pair.proofs.quick.write_number_read.Goals as goal

pub slice_bounds-text_is_read-count : goal.slice_bounds-text_is_read-count
slice_bounds-text_is_read-count c = omega (
  arith,
  ends_at c.args.buf.now c.write_integer.new.buf (value_text c.args.conv.now (datum_of_number c.args.number)) c.args.at
      c.in_ok-end.end c.requires c.in_ok-end.ensures.within c.in_ok-end.ensures.written,
)

pub slice_bounds-text_is_read-start : goal.slice_bounds-text_is_read-start
slice_bounds-text_is_read-start c =
    let start : c.args.at ≤ c.in_ok-end.end = omega (
      arith,
      ends_at c.args.buf.now c.write_integer.new.buf (value_text c.args.conv.now (datum_of_number c.args.number)) c.args.at
          c.in_ok-end.end c.requires c.in_ok-end.ensures.within c.in_ok-end.ensures.written,
    ) in start

pub text_is_read-requires : goal.text_is_read-requires
text_is_read-requires c =
    written_part c.args.buf.now c.write_integer.new.buf (value_text c.args.conv.now (datum_of_number c.args.number)) c.args.at
    c.in_ok-end.end c.requires c.in_ok-end.ensures.within c.in_ok-end.ensures.written
