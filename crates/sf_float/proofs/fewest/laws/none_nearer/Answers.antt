use Rattle.sf_float.proofs.FewestLemmas.Nearest.{none_nearer}
use Rattle.sf_float.proofs.fewest.laws.none_nearer.Goals as goal

pub returns : goal.returns
returns c = none_nearer
