use Rattle.sf_pair.proofs.Held as whole
use Rattle.sf_pair.proofs.laws.held_is_bounded.Goals as goal

pub returns : goal.returns
returns c = whole.held_is_bounded
