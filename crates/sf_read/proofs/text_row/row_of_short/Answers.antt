use Rattle.std.proofs.Common.{◌∙◌, inl, length, refl, sym, subst, Ok, Err}
use Rattle.sf_run.specs.outcome.Ending.TheVariants.{End}
use Rattle.sf_run.specs.Runs.{RunReport}
use Rattle.sf_run.specs.Views.{report_by}
use Rattle.sf_read.specs.field.Rows.{AreSlotsOf, slots_by}
use Rattle.sf_read.specs.declared.row.ScanRowFault.TheVariants.{NoMemory}
use Rattle.sf_read.proofs.Shapes.{answers_left, answers_whole, given}
use Rattle.sf_read.proofs.text_row.row_of_short.Goals as goal

pub from_report-requires-clause-given : goal.from_report-requires-clause-given
from_report-requires-clause-given g c =
    let e = c.in_ok-outcome.ensures in
    let report : RunReport = report_by c.in_ok-outcome.outcome c.scan_short.new.store.values in
    rw (c.new.ensures)
    (given g.T.Row.kinds g.T.Row.optional c.args.format.now c.args.limit c.args.text.now End report c.requires.accepted.kinded
    c.requires.accepted.slots
    c.requires.shape (inl e.run) e.done)

pub returns-then-leaves-clause-run : goal.returns-then-leaves-clause-run
returns-then-leaves-clause-run g c =
    let e = c.in_ok-outcome.ensures in
    let report : RunReport = report_by c.in_ok-outcome.outcome c.scan_short.new.store.values in
    record {
      report = report;
      answers = answers_left g.T.Row.kinds (slots_by g.T.Row.given g.T.Row.listed) report _ _ (sym c.leaves.ensures ∙ c.if-leaves.true)
          refl;
      told = inl e.run;
      bounded = λ _. e.run;
    }

pub returns-in-Ok-clause-run : goal.returns-in-Ok-clause-run
returns-in-Ok-clause-run g c =
    let e = c.in_ok-outcome.ensures in
    let report : RunReport = report_by c.in_ok-outcome.outcome c.scan_short.new.store.values in
    record {
      report = report;
      answers = answers_whole g.T.Row.kinds (slots_by g.T.Row.given g.T.Row.listed) report _ (Ok c.in-Ok.row)
          (sym c.leaves.ensures ∙ c.if-leaves.false) (
            e.done,
            subst (λ (r : RunReport). AreSlotsOf (length g.T.Row.kinds) (slots_by g.T.Row.given g.T.Row.listed c.in-Ok.row) r.values)
                c.new.ensures
                c.in-Ok.ensures.row,
          );
      told = inl e.run;
      bounded = λ _. e.run;
    }

pub returns-in-Err-NoMemory-clause-run : goal.returns-in-Err-NoMemory-clause-run
returns-in-Err-NoMemory-clause-run g c =
    let e = c.in_ok-outcome.ensures in
    let report : RunReport = report_by c.in_ok-outcome.outcome c.scan_short.new.store.values in
    record {
      report = report;
      answers = answers_whole g.T.Row.kinds (slots_by g.T.Row.given g.T.Row.listed) report _ (Err NoMemory)
          (sym c.leaves.ensures ∙ c.if-leaves.false) e.done;
      told = inl e.run;
      bounded = λ _. e.run;
    }
