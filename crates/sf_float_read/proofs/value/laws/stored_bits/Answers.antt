use Rattle.sf_float_read.proofs.ValueLemmas.StoredBits.{stored_bits}
use Rattle.sf_float_read.proofs.value.laws.stored_bits.Goals as goal

pub returns : goal.returns
returns c = stored_bits
