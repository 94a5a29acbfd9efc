use Rattle.sf_float_read.proofs.ValueLemmas.HexBack.{hexadecimal_back}
use Rattle.sf_float_read.proofs.value.laws.hexadecimal_reads_back.Goals as goal

pub returns : goal.returns
returns c = hexadecimal_back
