use Rattle.std.proofs.Common.{ℕ, List, ◌+◌, ◌-◌, map, take, ap, sym, ◌∙◌, length, arith, true≢false}
use mir.Val.{bool_byte}
use Rattle.std.proofs.lemmas.List.{length-take-le}
use Rattle.std.specs.List.{join_with_byte, range_with_len}
use Rattle.sf_forms.specs.Forms.{separator, slot_text}
use Rattle.sf_forms.specs.Heads.{columns, tag_text}
use Rattle.sf_forms.proofs.Filling.{ends_at}
use Rattle.sf_forms.proofs.Heading.{columns_are, joined_length}
use Rattle.sf_forms.proofs.Rooms.{closing_some, record_length}
use Rattle.sf_forms.proofs.short_line.write_record.Goals as goal

pub returns-clause-written : goal.returns-clause-written
returns-clause-written g c =
    let form = c.args.form in
    let first = c.in_ok-opened in
    let start = c.in_ok-start in
    let values = c.in_ok-values_end in
    columns_are form c.args.tag (slot_text form c.args.report.now) c.args.destinations _ (values.values_end - first.opened)
    (take first.opened c.write_opening.new.buf) (take start.start c.write_tag.new.buf)
    (take values.values_end c.write_values.new.buf) (take c.write_filler-end.result c.write_filler-end.new.buf) _
    (ap (λ (n : ℕ). c.args.destinations + n) (c.from.ensures ∙ ap bool_byte c.is_some.ensures))
    first.ensures.written start.ensures.written values.ensures.written
    (omega (
      arith,
      length-take-le values.values_end c.write_values.new.buf values.ensures.within,
      ap length first.ensures.written,
      length-take-le first.opened c.write_opening.new.buf first.ensures.within,
    )) c.write_filler-end.ensures.written c.write_closing.ensures.written

pub returns-in_err-start-clause-answers : goal.returns-in_err-start-clause-answers
returns-in_err-start-clause-answers g c room =
    let form = c.args.form in
    let f = slot_text form c.args.report.now in
    let first = c.in_ok-opened in
    absurd (true≢false (sym (c.in_err-start.ensures.answers (omega (
      arith,
      room,
      record_length form (columns form c.args.tag c.args.destinations c.args.report.now),
      joined_length (separator form) c.args.tag f c.args.destinations,
      closing_some form,
      ap length first.ensures.written,
      length-take-le first.opened c.write_opening.new.buf first.ensures.within,
    )))))

pub returns-in_err-values_end-clause-answers : goal.returns-in_err-values_end-clause-answers
returns-in_err-values_end-clause-answers g c room =
    let form = c.args.form in
    let f = slot_text form c.args.report.now in
    let first = c.in_ok-opened in
    let start = c.in_ok-start in
    absurd (true≢false (sym (c.in_err-values_end.ensures.answers (omega (
      arith,
      room,
      record_length form (columns form c.args.tag c.args.destinations c.args.report.now),
      joined_length (separator form) c.args.tag f c.args.destinations,
      closing_some form,
      ap length first.ensures.written,
      length-take-le first.opened c.write_opening.new.buf first.ensures.within,
      ends_at c.write_opening.new.buf c.write_tag.new.buf (tag_text (separator form) c.args.tag c.args.destinations) first.opened
          start.start first.ensures.within start.ensures.within start.ensures.written,
    )))))

pub returns-then-buf-values_end-lt4-clause-answers : goal.returns-then-buf-values_end-lt4-clause-answers
returns-then-buf-values_end-lt4-clause-answers g c room =
    let form = c.args.form in
    let f = slot_text form c.args.report.now in
    let first = c.in_ok-opened in
    let start = c.in_ok-start in
    let values = c.in_ok-values_end in
    let texts : List ℕ = join_with_byte (separator form) (map f (range_with_len 1 c.args.destinations)) in
    absurd (omega (
      arith,
      room,
      record_length form (columns form c.args.tag c.args.destinations c.args.report.now),
      joined_length (separator form) c.args.tag f c.args.destinations,
      closing_some form,
      ap length first.ensures.written,
      length-take-le first.opened c.write_opening.new.buf first.ensures.within,
      ends_at c.write_opening.new.buf c.write_tag.new.buf (tag_text (separator form) c.args.tag c.args.destinations) first.opened
          start.start first.ensures.within start.ensures.within start.ensures.written,
      ends_at c.write_tag.new.buf c.write_values.new.buf texts start.start values.values_end start.ensures.within values.ensures.within
          values.ensures.written,
      c.if-buf-values_end-lt4.true,
    ))

pub overflow_sub-values_end : goal.overflow_sub-values_end
overflow_sub-values_end g c =
    let form = c.args.form in
    let f = slot_text form c.args.report.now in
    let first = c.in_ok-opened in
    let start = c.in_ok-start in
    let values = c.in_ok-values_end in
    let texts : List ℕ = join_with_byte (separator form) (map f (range_with_len 1 c.args.destinations)) in
    omega (
      arith,
      ends_at c.write_opening.new.buf c.write_tag.new.buf (tag_text (separator form) c.args.tag c.args.destinations) first.opened
          start.start first.ensures.within start.ensures.within start.ensures.written,
      ends_at c.write_tag.new.buf c.write_values.new.buf texts start.start values.values_end start.ensures.within values.ensures.within
          values.ensures.written,
    )
