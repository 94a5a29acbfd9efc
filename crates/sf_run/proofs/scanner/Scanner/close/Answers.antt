use Rattle.std.proofs.Common.{rules}
use Rattle.sf_run.proofs.scanner.Scanner.close.Goals as goal

pub set-requires-clause-own : goal.set-requires-clause-own
set-requires-clause-own c = search rules

pub returns-in-Stores-clause-ends : goal.returns-in-Stores-clause-ends
returns-in-Stores-clause-ends c = search rules
