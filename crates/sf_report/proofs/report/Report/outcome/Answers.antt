use Rattle.std.proofs.Common.{rules}
use Rattle.sf_report.proofs.report.Report.outcome.Goals as goal

pub returns-clause-met : goal.returns-clause-met
returns-clause-met c = search rules
