use Rattle.std.proofs.Common.{length, subst}
use Rattle.sf_run.specs.Runs.{RunReport}
use Rattle.sf_run.specs.Views.{report_by}
use Rattle.sf_read.specs.field.Rows.{AreSlotsOf, slots_by}
use Rattle.sf_read.proofs.Shapes.{given, row_scanned}
use Rattle.sf_read.proofs.row.row_held_into.Goals as goal

pub from_report-requires-clause-given : goal.from_report-requires-clause-given
from_report-requires-clause-given g c =
    let told = c.in_ok-outcome.ensures.told in
    let report : RunReport = report_by c.in_ok-outcome.outcome (g.K.Store.kept c.held_into.new.store).values in
    rw (c.new-report.ensures)
    (given g.T.Row.kinds g.T.Row.optional c.args.format.now c.args.limit told.0 told.1 report c.requires.accepted.kinded
    c.requires.accepted.slots
    c.requires.shape told.2
    c.in_ok-outcome.ensures.done)

pub returns-in-Ok-clause-run : goal.returns-in-Ok-clause-run
returns-in-Ok-clause-run g c =
    let e = c.in_ok-outcome.ensures in
    let report : RunReport = report_by c.in_ok-outcome.outcome (g.K.Store.kept c.held_into.new.store).values in
    row_scanned g.S.Source.to_come g.S.Source.reads g.S.Source.failures g.row.N g.T.Row.kinds (slots_by g.T.Row.given g.T.Row.listed)
    c.args.format.now
    c.args.limit c.args.from.now c.held_into.new.from report _ e.done e.met c.held_into.ensures.no_read (
      e.done,
      subst (λ (r : RunReport). AreSlotsOf (length g.T.Row.kinds) (slots_by g.T.Row.given g.T.Row.listed c.in-Ok.row) r.values)
          c.new-report.ensures
          c.in-Ok.ensures.row,
    )
    e.scan e.told e.made

pub returns-in-Err-NoMemory-clause-run : goal.returns-in-Err-NoMemory-clause-run
returns-in-Err-NoMemory-clause-run g c =
    let e = c.in_ok-outcome.ensures in
    let report : RunReport = report_by c.in_ok-outcome.outcome (g.K.Store.kept c.held_into.new.store).values in
    row_scanned g.S.Source.to_come g.S.Source.reads g.S.Source.failures g.row.N g.T.Row.kinds (slots_by g.T.Row.given g.T.Row.listed)
    c.args.format.now
    c.args.limit c.args.from.now c.held_into.new.from report _ e.done e.met c.held_into.ensures.no_read e.done
    e.scan e.told e.made
