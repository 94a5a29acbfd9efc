use Rattle.std.proofs.Common.{rules}
use Rattle.sf_read.proofs.row.ScanRowFaultDisplay.fmt.Goals as goal

pub returns-in-Failed-clause-writes : goal.returns-in-Failed-clause-writes
returns-in-Failed-clause-writes c = search rules
