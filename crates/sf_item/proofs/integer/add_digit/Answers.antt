use Rattle.std.proofs.Common.{rules}
use Rattle.sf_item.proofs.integer.add_digit.Goals as goal

pub returns-in-Ok-clause-number : goal.returns-in-Ok-clause-number
returns-in-Ok-clause-number c = search rules
