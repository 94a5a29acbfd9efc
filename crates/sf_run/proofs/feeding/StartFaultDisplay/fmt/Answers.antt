use Rattle.std.proofs.Common.{rules}
use Rattle.sf_run.proofs.feeding.StartFaultDisplay.fmt.Goals as goal

pub returns-in-TooSmall-clause-writes : goal.returns-in-TooSmall-clause-writes
returns-in-TooSmall-clause-writes c = search rules
