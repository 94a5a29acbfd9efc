use Rattle.std.proofs.Common.{rules}
use Rattle.sf_read.proofs.source.std_source.StdSourceSource.read.Goals as goal

pub returns-in-Err-clause-failures : goal.returns-in-Err-clause-failures
returns-in-Err-clause-failures g c = search rules
