use Rattle.sf_float.proofs.FewestLemmas.ReadBack.{one_float}
use Rattle.sf_float.proofs.fewest.laws.one_float.Goals as goal

pub returns : goal.returns
returns c = one_float
