use Rattle.std.proofs.Common.{rules}
use Rattle.sf_read.proofs.source.source.RefMutSource.read.Goals as goal

pub returns-clause-bytes : goal.returns-clause-bytes
returns-clause-bytes g c = search rules
