use Rattle.sf_base.proofs.TwoDigits.{pair_at}
use Rattle.sf_base.proofs.pairs.pair_of.Goals as goal

pub returns-clause-tens : goal.returns-clause-tens
returns-clause-tens c = (pair_at c.args.n c.requires).0

pub returns-clause-ones : goal.returns-clause-ones
returns-clause-ones c = (pair_at c.args.n c.requires).1
