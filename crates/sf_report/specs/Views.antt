-- What the types of the code stand for.
use Rattle.std.specs.Prelude.{List}
use Rattle.sf_base.specs.Data.{Assigned}
use Rattle.sf_base.specs.stores.Kept.{Kept}
use Rattle.sf_report.specs.declared.outcome.Outcome.{Outcome}
use Rattle.sf_report.specs.Runs.{RunReport}

-- what a run came to, and what the store of its values keeps
pub record StoredReport : Type 0 where
  pub report : RunReport
  pub kept : Kept

abbrev pub report_by : Outcome → List Assigned → RunReport
report_by outcome values = record {
  status = outcome.status;
  at = outcome.at;
  assigned = outcome.assigned;
  converted = outcome.converted;
  used = outcome.used;
  met = outcome.met;
  values = values;
}
