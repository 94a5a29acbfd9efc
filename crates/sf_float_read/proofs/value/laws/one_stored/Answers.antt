use Rattle.sf_float_read.proofs.ValueLemmas.OneStored.{one_stored}
use Rattle.sf_float_read.proofs.value.laws.one_stored.Goals as goal

pub returns : goal.returns
returns c = one_stored
