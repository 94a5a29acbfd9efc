use Rattle.sf_float_read.proofs.ValueLemmas.StoredComputed.{stored_is_computed}
use Rattle.sf_float_read.proofs.value.laws.stored_is_computed.Goals as goal

pub returns : goal.returns
returns c = stored_is_computed
