use Rattle.sf_report.proofs.Computing.{each_run}
use Rattle.sf_report.proofs.Told.{run_is_told}
use Rattle.sf_report.proofs.laws.runs_are_computed.Goals as goal

pub returns-clause-steps : goal.returns-clause-steps
returns-clause-steps c = each_run

pub returns-clause-report : goal.returns-clause-report
returns-clause-report c = run_is_told
