use Rattle.std.proofs.Common.{rules}
use Rattle.sf_report.proofs.report.Report.value.Goals as goal

pub returns : goal.returns
returns c = search rules
