use Rattle.std.proofs.Common.{rules}
use Rattle.sf_report.proofs.outcome.Status.text.Goals as goal

pub returns-in-TooLong : goal.returns-in-TooLong
returns-in-TooLong c = search rules
