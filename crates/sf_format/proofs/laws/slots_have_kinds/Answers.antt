use Rattle.sf_format.proofs.SlotLookups as lookups
use Rattle.sf_format.proofs.laws.slots_have_kinds.Goals as goal

pub returns : goal.returns
returns c = lookups.kinds_are
