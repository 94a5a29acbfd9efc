use Rattle.sf_float.proofs.FewestLemmas.Fewest.{none_shorter}
use Rattle.sf_float.proofs.fewest.laws.none_shorter.Goals as goal

pub returns : goal.returns
returns c = none_shorter
