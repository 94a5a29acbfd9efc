use Rattle.sf_float_read.proofs.ItemLemmas.Joined.{decimals_are_floats}
use Rattle.sf_float_read.proofs.item.laws.decimals_are_floats.Goals as goal

pub returns : goal.returns
returns c = decimals_are_floats
