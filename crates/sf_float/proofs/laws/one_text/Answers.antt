use Rattle.sf_float.proofs.Computed.{one_text}
use Rattle.sf_float.proofs.laws.one_text.Goals as goal

pub returns : goal.returns
returns c = one_text
