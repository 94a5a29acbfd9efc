use Rattle.sf_float_read.proofs.ValueLemmas.HexBack.{one_hex_value}
use Rattle.sf_float_read.proofs.value.laws.one_hex_value.Goals as goal

pub returns : goal.returns
returns c = one_hex_value
