use Rattle.std.proofs.Common.{◌≤◌, ◌++◌, length, take, ap, sym, ◌∙◌, arith, true≢false}
use Rattle.sf_base.specs.Data.{Datum, datum_of_shown}
use Rattle.sf_print.specs.texts.Text.{value_text}
use Rattle.sf_print.proofs.InPlace.{ends_at}
use Rattle.sf_pair.specs.Fits.{value_fits}
use Rattle.sf_pair.proofs.InPlace.{written_part}
use Rattle.sf_pair.proofs.in_place.write_any.Goals as goal

pub slice_bounds-text_is_read-count : goal.slice_bounds-text_is_read-count
slice_bounds-text_is_read-count g c = omega (
  arith,
  ends_at c.args.buf.now c.write_value.new.buf (value_text c.args.conv.now (datum_of_shown c.as_shown-shown.result)) c.args.at
      c.in_ok-end.end c.requires c.in_ok-end.ensures.within c.in_ok-end.ensures.written,
)

pub slice_bounds-text_is_read-start : goal.slice_bounds-text_is_read-start
slice_bounds-text_is_read-start g c =
    let start : c.args.at ≤ c.in_ok-end.end = omega (
      arith,
      ends_at c.args.buf.now c.write_value.new.buf (value_text c.args.conv.now (datum_of_shown c.as_shown-shown.result)) c.args.at
          c.in_ok-end.end c.requires c.in_ok-end.ensures.within c.in_ok-end.ensures.written,
    ) in start

pub text_is_read-requires : goal.text_is_read-requires
text_is_read-requires g c =
    written_part c.args.buf.now c.write_value.new.buf (value_text c.args.conv.now (datum_of_shown c.as_shown-shown.result)) c.args.at
    c.in_ok-end.end c.requires c.in_ok-end.ensures.within c.in_ok-end.ensures.written

pub returns-then-text_is_read-clause-written : goal.returns-then-text_is_read-clause-written
returns-then-text_is_read-clause-written g c =
    c.in_ok-end.ensures.written
    ∙ ap (λ (v : Datum). take c.args.at c.args.buf.now ++ value_text c.args.conv.now v) c.as_shown-shown.ensures

pub returns-then-text_is_read-clause-fits : goal.returns-then-text_is_read-clause-fits
returns-then-text_is_read-clause-fits g c =
    ap (value_fits c.args.conv.now c.args.scan.now) (sym c.as_shown-shown.ensures) ∙ sym c.text_is_read.ensures ∙ c.if-text_is_read.true

pub returns-in_err-end-clause-answers : goal.returns-in_err-end-clause-answers
returns-in_err-end-clause-answers g c fits room =
    absurd (true≢false (sym (c.in_err-end.ensures.answers (omega (
      arith,
      room,
      ap (λ (v : Datum). length (value_text c.args.conv.now v)) c.as_shown-shown.ensures,
    )))))

pub returns-else-text_is_read-clause-answers : goal.returns-else-text_is_read-clause-answers
returns-else-text_is_read-clause-answers g c fits room =
    absurd (true≢false (sym fits ∙ ap (value_fits c.args.conv.now c.args.scan.now) (sym c.as_shown-shown.ensures)
    ∙ sym c.text_is_read.ensures ∙ c.if-text_is_read.false))
