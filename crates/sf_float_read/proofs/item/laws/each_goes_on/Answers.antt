use Rattle.sf_float_read.proofs.ItemLemmas.GoingOn.{goes_on}
use Rattle.sf_float_read.proofs.item.laws.each_goes_on.Goals as goal

pub returns : goal.returns
returns c = goes_on
