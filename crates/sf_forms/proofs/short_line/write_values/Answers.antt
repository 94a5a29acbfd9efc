use Rattle.std.proofs.Common.{ℕ, List, [], ◌∷◌, ◌+◌, ◌++◌, take, ap, sym, ◌∙◌, ◌<◌, length, arith, append_assoc, refl, true≢false}
use Rattle.std.proofs.lemmas.List.{append-nil}
use Rattle.sf_forms.specs.Columns.{after_head}
use Rattle.sf_forms.specs.Forms.{separator, slot_text}
use Rattle.sf_forms.proofs.Filling.{ends_at}
use Rattle.sf_forms.proofs.Joining.{begun_stays, text_after, then_opened}
use Rattle.sf_forms.proofs.Rooms.{room_head, room_value}
use Rattle.sf_forms.proofs.short_line.write_values.Goals as goal

pub loop-before-init : goal.loop-before-init
loop-before-init g c = record {
  within = c.requires.place;
  low = omega arith;
  written = sym (append-nil (take c.args.at c.args.buf.now));
  begun = sym (append-nil (take c.args.at c.args.buf.now));
}

pub loop-before-preserved : goal.loop-before-preserved
loop-before-preserved g c =
    let l = c.loop-before in
    let head = g.H.Heads.text c.args.heads.now in
    let value = slot_text c.args.form c.args.report.now in
    let start = c.in_ok-start in
    let sep = separator c.args.form in
    let begun = take c.args.at c.args.buf.now in
    let end = c.write_slot-end.result in
    let room : end < length c.write_slot-end.new.buf = omega (arith, c.write_slot-end.ensures.within, c.if-end-buf.false) in
    let both = c.write_slot-end.ensures.written room ∙ ap (λ (t : List ℕ). t ++ value (l.before + 1)) start.ensures.written
    ∙ append_assoc (take l.next l.buf) (head (l.before + 1)) (value (l.before + 1)) in
    let text = text_after sep (after_head head value) l.before begun (take l.next l.buf) (take end c.write_slot-end.new.buf)
    l.invariant.begun both in
    let after = c.write_byte-next.ensures.written
    ∙ ap (λ (b : ℕ). take end c.write_slot-end.new.buf ++ b ∷ []) c.separator-separator.ensures in
    record {
      within = omega (arith, c.write_byte-next.ensures.end, c.write_byte-next.auto.buf, room);
      low = omega (arith, c.write_byte-next.ensures.end);
      written = begun_stays end c.write_slot-end.new.buf c.write_byte-next.new.buf sep c.write_byte-next.result
          c.write_byte-next.ensures.end c.write_slot-end.ensures.within after ∙ text;
      begun = then_opened sep (after_head head value) l.before begun (take end c.write_slot-end.new.buf)
          (take c.write_byte-next.result c.write_byte-next.new.buf) text after;
    }

pub returns-in_err-start-clause-answers : goal.returns-in_err-start-clause-answers
returns-in_err-start-clause-answers g c room =
    let l = c.loop-before in
    let head = g.H.Heads.text c.args.heads.now in
    let value = slot_text c.args.form c.args.report.now in
    absurd (true≢false (sym (c.in_err-start.ensures.answers (room_head (separator c.args.form) (after_head head value)
    c.args.destinations l.before c.args.at l.next c.args.buf.now l.buf c.loop-before-test.true c.requires.place l.invariant.within
    l.invariant.begun (omega (arith, room, l.auto.buf)) (head (l.before + 1)) (value (l.before + 1)) refl))))

pub returns-then-end-buf-clause-answers : goal.returns-then-end-buf-clause-answers
returns-then-end-buf-clause-answers g c room =
    let l = c.loop-before in
    let head = g.H.Heads.text c.args.heads.now in
    let value = slot_text c.args.form c.args.report.now in
    let start = c.in_ok-start in
    let from = ends_at l.buf c.write.new.buf (head (l.before + 1)) l.next start.start l.invariant.within
    (omega (arith, start.ensures.within)) start.ensures.written in
    let fits = c.write_slot-end.ensures.answers (omega (
      arith,
      room_value (separator c.args.form) (after_head head value)
          c.args.destinations l.before c.args.at l.next c.args.buf.now l.buf c.loop-before-test.true c.requires.place l.invariant.within
          l.invariant.begun (omega (arith, room, l.auto.buf)) (head (l.before + 1)) (value (l.before + 1)) refl start.start from,
      c.write.auto.buf,
    )) in
    absurd (omega (arith, fits, c.if-end-buf.true))
