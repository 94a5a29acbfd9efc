use Rattle.sf_pair.proofs.OneStop as one
use Rattle.sf_pair.proofs.laws.stops_are_one.Goals as goal

pub returns : goal.returns
returns c = one.stops_are_one
