use Rattle.std.proofs.Common.{rules}
use Rattle.sf_report.proofs.outcome.OutcomeDisplay.fmt.Goals as goal

pub returns-clause-writes : goal.returns-clause-writes
returns-clause-writes c = search rules
