use Rattle.std.proofs.Common.{rules}
use Rattle.sf_report.proofs.report.Report.c_return.Goals as goal

pub returns-else-eq : goal.returns-else-eq
returns-else-eq c = search rules
