use Rattle.sf_float.proofs.Generals.{plain_is_fixed}
use Rattle.sf_float.proofs.laws.plain_is_fixed.Goals as goal

pub returns : goal.returns
returns c = plain_is_fixed
