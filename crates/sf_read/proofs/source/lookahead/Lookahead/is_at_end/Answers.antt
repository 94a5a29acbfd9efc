use Rattle.std.proofs.Common.{rules}
use Rattle.sf_read.proofs.source.lookahead.Lookahead.is_at_end.Goals as goal

pub returns-clause-is : goal.returns-clause-is
returns-clause-is c = search rules
