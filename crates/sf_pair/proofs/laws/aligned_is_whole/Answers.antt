use Rattle.sf_pair.proofs.NoneMissing as missing
use Rattle.sf_pair.proofs.laws.aligned_is_whole.Goals as goal

pub returns-clause-conversions : goal.returns-clause-conversions
returns-clause-conversions c = missing.aligned_is_whole

pub returns-clause-slots : goal.returns-clause-slots
returns-clause-slots c = missing.aligned_misses_none
