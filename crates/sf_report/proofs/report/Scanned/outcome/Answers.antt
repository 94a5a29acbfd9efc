use Rattle.std.proofs.Common.{rules}
use Rattle.sf_report.proofs.report.Scanned.outcome.Goals as goal

pub returns-clause-used : goal.returns-clause-used
returns-clause-used c = search rules
