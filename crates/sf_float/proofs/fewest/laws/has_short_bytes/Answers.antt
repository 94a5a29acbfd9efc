use Rattle.sf_float.proofs.FewestLemmas.ShortBytes.{bytes}
use Rattle.sf_float.proofs.fewest.laws.has_short_bytes.Goals as goal

pub returns : goal.returns
returns c = bytes
