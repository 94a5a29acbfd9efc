use Rattle.sf_float.proofs.FewestLemmas.ReadBack.{each_back}
use Rattle.sf_float.proofs.fewest.laws.reads_back.Goals as goal

pub returns : goal.returns
returns c = each_back
