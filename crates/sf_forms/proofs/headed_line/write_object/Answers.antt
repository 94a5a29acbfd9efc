use Rattle.std.proofs.Common.{ℕ, List, map, take, length, ap, arith, sym, true≢false}
use Rattle.std.proofs.lemmas.List.{length-take-le}
use Rattle.std.specs.List.{join_with_byte, range_with_len}
use Rattle.sf_forms.specs.declared.form.OutputForm.TheVariants.{Json}
use Rattle.sf_forms.specs.Columns.{after_head, name_at}
use Rattle.sf_forms.specs.Forms.{slot_text}
use Rattle.sf_forms.specs.Heads.{head}
use Rattle.sf_forms.proofs.Filling.{ends_at}
use Rattle.sf_forms.proofs.Heading.{object_length, object_written}
use Rattle.sf_forms.proofs.headed_line.write_object.Goals as goal

pub returns-clause-written : goal.returns-clause-written
returns-clause-written g c =
    object_written c.args.names.now (slot_text Json c.args.report.now) c.args.destinations c.args.tag
    (take c.in_ok-start.start c.write_front.new.buf) (take c.in_ok-end.end c.write_values.new.buf)
    (take c.write_byte-brace.result c.write_byte-brace.new.buf) _ c.in_ok-start.ensures.written c.in_ok-end.ensures.written
    c.write_byte-brace.ensures.written c.write_byte.ensures.written

pub returns-in_err-start-clause-answers : goal.returns-in_err-start-clause-answers
returns-in_err-start-clause-answers g c room =
    absurd (true≢false (sym (c.in_err-start.ensures.answers (omega (
      arith,
      room,
      object_length c.args.names.now (slot_text Json c.args.report.now) c.args.destinations c.args.tag,
    )))))

pub returns-in_err-end-clause-answers : goal.returns-in_err-end-clause-answers
returns-in_err-end-clause-answers g c room =
    let start = c.in_ok-start in
    absurd (true≢false (sym (c.in_err-end.ensures.answers (omega (
      arith,
      room,
      object_length c.args.names.now (slot_text Json c.args.report.now) c.args.destinations c.args.tag,
      ap length start.ensures.written,
      length-take-le start.start c.write_front.new.buf start.ensures.within,
      c.write_front.auto.buf,
    )))))

pub returns-then-buf-end-lt2-clause-answers : goal.returns-then-buf-end-lt2-clause-answers
returns-then-buf-end-lt2-clause-answers g c room =
    let names = c.args.names.now in
    let f = slot_text Json c.args.report.now in
    let start = c.in_ok-start in
    let values = c.in_ok-end in
    let texts : List ℕ = join_with_byte 44 (map (after_head (λ k. head (name_at names k)) f) (range_with_len 1 c.args.destinations)) in
    absurd (omega (
      arith,
      room,
      object_length names f c.args.destinations c.args.tag,
      ap length start.ensures.written,
      length-take-le start.start c.write_front.new.buf start.ensures.within,
      ends_at c.write_front.new.buf c.write_values.new.buf texts start.start values.end start.ensures.within values.ensures.within
          values.ensures.written,
      c.write_front.auto.buf,
      c.write_values.auto.buf,
      c.if-buf-end-lt2.true,
    ))
