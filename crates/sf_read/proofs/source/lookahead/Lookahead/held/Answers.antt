use Rattle.std.proofs.Common.{rules}
use Rattle.sf_read.proofs.source.lookahead.Lookahead.held.Goals as goal

pub returns-clause-held : goal.returns-clause-held
returns-clause-held g c = search rules
