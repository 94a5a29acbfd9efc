use Rattle.std.proofs.Common.{◌≡◌, ◌∙◌, List, Some, Ok, ap, refl, subst}
use Rattle.sf_scanf.specs.Counts.{AnswersNext, IsCount}
use Rattle.sf_scanf.specs.Rows.{slots_by}
use Rattle.sf_scanf.specs.directive.Directive.{Directive}
use Rattle.example_count.proofs.count.Goals as goal

pub loop-number-init : goal.loop-number-init
loop-number-init g c = c.records_are_counted.ensures.begins c.in_ok-records.records c.in_ok-records.ensures.none_yet.2

pub loop-number-preserved : goal.loop-number-preserved
loop-number-preserved g c =
    c.records_are_counted.ensures.more c.in_ok-records.records c.loop-number.records c.next.new.self c.loop-number.number c.in-Some._row
    c.loop-number.invariant (subst (λ r. AnswersNext (λ s. Some s.to_come) (λ s. s.reads) (λ s. 0) 64 g.T.Row.kinds
    (slots_by g.T.Row.given g.T.Row.listed)
    c.loop-number.records c.next.new.self r) (c.in_ok-_row.was ∙ ap Ok c.in-Some.is)
    (record { over = c.next.ensures.over; next = c.next.ensures.next }))

pub returns-in-None : goal.returns-in-None
returns-in-None g c =
    let first = c.in_ok-records.ensures in
    subst (λ (ds : List Directive). IsCount g.T.Row.kinds (slots_by g.T.Row.given g.T.Row.listed) ds 1000 c.args.text.now
    c.loop-number.number) first.format.0
    (subst (λ m. IsCount g.T.Row.kinds (slots_by g.T.Row.given g.T.Row.listed) c.in_ok-records.records.format m c.args.text.now
    c.loop-number.number) first.format.1
    (c.records_are_counted.ensures.ends c.in_ok-records.records c.loop-number.records c.next.new.self c.loop-number.number
    c.loop-number.invariant (subst (λ r. AnswersNext (λ s. Some s.to_come) (λ s. s.reads) (λ s. 0) 64 g.T.Row.kinds
    (slots_by g.T.Row.given g.T.Row.listed)
    c.loop-number.records c.next.new.self r) (c.in_ok-_row.was ∙ ap Ok c.in-None.is)
    (record { over = c.next.ensures.over; next = c.next.ensures.next })) c.args.text.now
    (rw (first.held, first.source, c.new.ensures) refl)))
