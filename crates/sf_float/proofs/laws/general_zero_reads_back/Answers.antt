use Rattle.sf_float.proofs.GeneralBack.{general_zero}
use Rattle.sf_float.proofs.laws.general_zero_reads_back.Goals as goal

pub returns : goal.returns
returns c = general_zero
