use Rattle.sf_float.proofs.GeneralBack.{general_back}
use Rattle.sf_float.proofs.laws.general_reads_back.Goals as goal

pub returns : goal.returns
returns c = general_back
