use Rattle.std.proofs.Common.{rules}
use Rattle.sf_run.proofs.number.number_of.Goals as goal

pub returns : goal.returns
returns c = search rules
