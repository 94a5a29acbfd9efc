use Rattle.std.proofs.Common.{refl, sym, true≢false}
use Rattle.sf_run.proofs.ColumnAnswers.{full_column, shown_column_waits, waiting_column}
use Rattle.sf_run.proofs.directive.run_column.Goals as goal

pub returns-then-not-is_full-clause-answers : goal.returns-then-not-is_full-clause-answers
returns-then-not-is_full-clause-answers c f proper own column taken some slot n =
    let t = c.take_run-taken.ensures in
    let r = c.take_run-taken.result in
    let s = c.slot_after-slot.ensures in
    waiting_column c.args.conversion.now column proper c.args.scan c.take_run-taken.new.self f c.args.piece.now r.before r.text
    c.args.slot c.slot_after-slot.result own t.conversion taken t.all t.left (t.taken f taken) (t.text f taken) slot s.same s.begun n some
    (λ e. true≢false (sym (c.if-not-is_full.ensures.1 e))) s.own

pub returns-then-not-is_full-clause-more : goal.returns-then-not-is_full-clause-more
returns-then-not-is_full-clause-more c none q shows =
    shown_column_waits c.args.conversion.now c.slot_after-slot.result c.take_run-taken.new.self q shows
    (λ e. true≢false (sym (c.if-not-is_full.ensures.1 e)))

pub returns-clause-answers : goal.returns-clause-answers
returns-clause-answers c f proper own column taken some slot n =
    let t = c.take_run-taken.ensures in
    let r = c.take_run-taken.result in
    let s = c.slot_after-slot.ensures in
    full_column c.args.conversion.now column proper c.args.scan c.take_run-taken.new.self f c.args.piece.now r.before r.text
    c.args.slot c.slot_after-slot.result own t.conversion taken t.all t.left (t.taken f taken) (t.text f taken) slot s.same s.begun n
    c.finish_column.result some (c.if-not-is_full.ensures.0 refl) s.own c.finish_column.ensures.end
