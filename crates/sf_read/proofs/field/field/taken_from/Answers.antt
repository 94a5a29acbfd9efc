use Rattle.std.proofs.Common.{arith}
use Rattle.sf_read.proofs.field.field.taken_from.Goals as goal

pub returns-clause-refused : goal.returns-clause-refused
returns-clause-refused c = grind arith
