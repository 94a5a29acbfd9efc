use Rattle.std.proofs.Common.{◌≡◌, ◌∙◌, true, length, Some, None, Ok, Err, refl, sym, ap, subst}
use Rattle.sf_run.specs.Runs.{RunReport}
use Rattle.sf_read.specs.field.Rows.{AreGivenAs, AreSlotsOf, slots_by}
use Rattle.sf_read.specs.RowScans.{HasShape}
use Rattle.sf_loops.specs.Loops.{Loop, RowAnswers}
use Rattle.sf_loops.proofs.Given.{end_kept}
use Rattle.sf_loops.proofs.Rows.{as_row, done_of, given_row, over_false, over_fault, over_never}
use Rattle.sf_loops.proofs.records.Records.next.Goals as goal

pub invariant_of-self : goal.invariant_of-self
invariant_of-self g c = subst (HasShape g.T.Row.kinds g.T.Row.optional) (sym c.advance.ensures.format) c.self.invariant

pub invariant_of-self-in-Err : goal.invariant_of-self-in-Err
invariant_of-self-in-Err g c = subst (HasShape g.T.Row.kinds g.T.Row.optional) (sym c.advance.ensures.format) c.self.invariant

pub invariant_of-self-in-Ok : goal.invariant_of-self-in-Ok
invariant_of-self-in-Ok g c = subst (HasShape g.T.Row.kinds g.T.Row.optional) (sym c.advance.ensures.format) c.self.invariant

pub invariant_of-self-in-Err-NoMemory : goal.invariant_of-self-in-Err-NoMemory
invariant_of-self-in-Err-NoMemory g c =
    subst (HasShape g.T.Row.kinds g.T.Row.optional) (sym (ap (λ (l : Loop g.row.S.Denot). l.format) c.refuse_row.ensures.over ∙
    c.advance.ensures.format))
    c.self.invariant

pub from_report-requires-clause-done : goal.from_report-requires-clause-done
from_report-requires-clause-done g c =
    let there : c.advance.result ≡ Ok true = c.in-Ok-true.is ∙ ap Ok c.in-Ok-true.field-0-test in
    let done = (done_of c.self.inside.reports c.advance.new.self c.advance.result c.advance.ensures.over c.advance.ensures.next there).1 in
    ap (λ (r : RunReport). r.status) c.report.ensures.value ∙ done

pub from_report-requires-clause-given : goal.from_report-requires-clause-given
from_report-requires-clause-given g c =
    let there : c.advance.result ≡ Ok true = c.in-Ok-true.is ∙ ap Ok c.in-Ok-true.field-0-test in
    subst (λ (r : RunReport). AreGivenAs g.T.Row.kinds g.T.Row.optional r.values) (sym c.report.ensures.value)
    (given_row g.T.Row.kinds g.T.Row.optional c.self.inside.reports c.advance.new.self c.advance.result c.advance.ensures.over
    c.advance.ensures.next there
    c.advance.ensures.format c.report.ensures.accepted c.self.invariant)

pub returns-in-Ok-false-clause-next : goal.returns-in-Ok-false-clause-next
returns-in-Ok-false-clause-next g c =
    as_row g.S.Source.to_come g.S.Source.reads g.S.Source.failures g.row.N g.T.Row.kinds (slots_by g.T.Row.given g.T.Row.listed)
    c.self.inside.reports
    c.args.self.now
    c.advance.new.self c.advance.new.self c.advance.result (Ok None) c.self.view_is c.advance.ensures.next
    (subst (λ r. RowAnswers g.T.Row.kinds (slots_by g.T.Row.given g.T.Row.listed) c.advance.new.self c.advance.new.self r (Ok None))
    (sym (c.in-Ok-false.is ∙ ap Ok c.in-Ok-false.field-0-test)) refl)

pub returns-in-Err-clause-next : goal.returns-in-Err-clause-next
returns-in-Err-clause-next g c =
    as_row g.S.Source.to_come g.S.Source.reads g.S.Source.failures g.row.N g.T.Row.kinds (slots_by g.T.Row.given g.T.Row.listed)
    c.self.inside.reports
    c.args.self.now
    c.advance.new.self c.advance.new.self c.advance.result (Err c.in-Err.fault) c.self.view_is c.advance.ensures.next
    (subst (λ r. RowAnswers g.T.Row.kinds (slots_by g.T.Row.given g.T.Row.listed) c.advance.new.self c.advance.new.self r
    (Err c.in-Err.fault)) (sym c.in-Err.is)
    (refl, refl))

pub returns-in-Ok-clause-next : goal.returns-in-Ok-clause-next
returns-in-Ok-clause-next g c =
    as_row g.S.Source.to_come g.S.Source.reads g.S.Source.failures g.row.N g.T.Row.kinds (slots_by g.T.Row.given g.T.Row.listed)
    c.self.inside.reports
    c.args.self.now
    c.advance.new.self c.advance.new.self c.advance.result (Ok (Some c.in-Ok.row)) c.self.view_is c.advance.ensures.next
    (subst (λ r. RowAnswers g.T.Row.kinds (slots_by g.T.Row.given g.T.Row.listed) c.advance.new.self c.advance.new.self r
    (Ok (Some c.in-Ok.row)))
    (sym (c.in-Ok-true.is ∙ ap Ok c.in-Ok-true.field-0-test)) (
      refl,
      subst (λ (r : RunReport). AreSlotsOf (length g.T.Row.kinds) (slots_by g.T.Row.given g.T.Row.listed c.in-Ok.row) r.values)
          c.report.ensures.value
          c.in-Ok.ensures.row,
    ))

pub returns-in-Err-NoMemory-clause-next : goal.returns-in-Err-NoMemory-clause-next
returns-in-Err-NoMemory-clause-next g c =
    as_row g.S.Source.to_come g.S.Source.reads g.S.Source.failures g.row.N g.T.Row.kinds (slots_by g.T.Row.given g.T.Row.listed)
    c.self.inside.reports
    c.args.self.now
    c.advance.new.self c.refuse_row.new.self c.advance.result (Err c.refuse_row.result) c.self.view_is c.advance.ensures.next
    (subst (λ r. RowAnswers g.T.Row.kinds (slots_by g.T.Row.given g.T.Row.listed) c.advance.new.self c.refuse_row.new.self r
    (Err c.refuse_row.result))
    (sym (c.in-Ok-true.is ∙ ap Ok c.in-Ok-true.field-0-test)) (c.refuse_row.ensures.fault, c.refuse_row.ensures.over))

pub returns-in-Ok-false-clause-over : goal.returns-in-Ok-false-clause-over
returns-in-Ok-false-clause-over g c =
    over_false c.self.inside.reports c.args.self.now c.advance.new.self c.advance.result c.self.view_is c.advance.ensures.over
    (c.in-Ok-false.is ∙ ap Ok c.in-Ok-false.field-0-test)

pub returns-in-Err-clause-over : goal.returns-in-Err-clause-over
returns-in-Err-clause-over g c =
    over_fault c.self.inside.reports c.args.self.now c.advance.new.self c.advance.result c.in-Err.fault c.self.view_is
    c.advance.ensures.over c.in-Err.is

pub returns-in-Ok-clause-over : goal.returns-in-Ok-clause-over
returns-in-Ok-clause-over g c = λ end h.
    absurd (over_never c.self.inside.reports c.args.self.now c.advance.new.self c.advance.result c.self.view_is c.advance.ensures.over
    (c.in-Ok-true.is ∙ ap Ok c.in-Ok-true.field-0-test) end h)

pub returns-in-Err-NoMemory-clause-over : goal.returns-in-Err-NoMemory-clause-over
returns-in-Err-NoMemory-clause-over g c = λ end h.
    absurd (over_never c.self.inside.reports c.args.self.now c.advance.new.self c.advance.result c.self.view_is c.advance.ensures.over
    (c.in-Ok-true.is ∙ ap Ok c.in-Ok-true.field-0-test) end h)

pub returns-in-Ok-false-clause-no_read : goal.returns-in-Ok-false-clause-no_read
returns-in-Ok-false-clause-no_read g c =
    (end_kept _ _ c.advance.new.self.ahead c.advance.new.self.ahead (ap (λ (l : Loop g.row.S.Denot). l.ahead) c.self.view_is)
    refl c.advance.ensures.no_read c.advance.ensures.stays).no_read

pub returns-in-Ok-false-clause-stays : goal.returns-in-Ok-false-clause-stays
returns-in-Ok-false-clause-stays g c =
    (end_kept _ _ c.advance.new.self.ahead c.advance.new.self.ahead (ap (λ (l : Loop g.row.S.Denot). l.ahead) c.self.view_is)
    refl c.advance.ensures.no_read c.advance.ensures.stays).stays

pub returns-in-Err-clause-no_read : goal.returns-in-Err-clause-no_read
returns-in-Err-clause-no_read g c =
    (end_kept _ _ c.advance.new.self.ahead c.advance.new.self.ahead (ap (λ (l : Loop g.row.S.Denot). l.ahead) c.self.view_is)
    refl c.advance.ensures.no_read c.advance.ensures.stays).no_read

pub returns-in-Err-clause-stays : goal.returns-in-Err-clause-stays
returns-in-Err-clause-stays g c =
    (end_kept _ _ c.advance.new.self.ahead c.advance.new.self.ahead (ap (λ (l : Loop g.row.S.Denot). l.ahead) c.self.view_is)
    refl c.advance.ensures.no_read c.advance.ensures.stays).stays

pub returns-in-Ok-clause-no_read : goal.returns-in-Ok-clause-no_read
returns-in-Ok-clause-no_read g c =
    (end_kept _ _ c.advance.new.self.ahead c.advance.new.self.ahead (ap (λ (l : Loop g.row.S.Denot). l.ahead) c.self.view_is)
    refl c.advance.ensures.no_read c.advance.ensures.stays).no_read

pub returns-in-Ok-clause-stays : goal.returns-in-Ok-clause-stays
returns-in-Ok-clause-stays g c =
    (end_kept _ _ c.advance.new.self.ahead c.advance.new.self.ahead (ap (λ (l : Loop g.row.S.Denot). l.ahead) c.self.view_is)
    refl c.advance.ensures.no_read c.advance.ensures.stays).stays

pub returns-in-Err-NoMemory-clause-no_read : goal.returns-in-Err-NoMemory-clause-no_read
returns-in-Err-NoMemory-clause-no_read g c =
    (end_kept _ _ _ _ (ap (λ (l : Loop g.row.S.Denot). l.ahead) c.self.view_is)
    (ap (λ (l : Loop g.row.S.Denot). l.ahead) c.refuse_row.ensures.over) c.advance.ensures.no_read c.advance.ensures.stays).no_read

pub returns-in-Err-NoMemory-clause-stays : goal.returns-in-Err-NoMemory-clause-stays
returns-in-Err-NoMemory-clause-stays g c =
    (end_kept _ _ _ _ (ap (λ (l : Loop g.row.S.Denot). l.ahead) c.self.view_is)
    (ap (λ (l : Loop g.row.S.Denot). l.ahead) c.refuse_row.ensures.over) c.advance.ensures.no_read c.advance.ensures.stays).stays
