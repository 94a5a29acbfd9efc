use Rattle.sf_float_read.proofs.ValueLemmas.ShortStored.{short_stored}
use Rattle.sf_float_read.proofs.value.laws.short_is_stored.Goals as goal

pub returns : goal.returns
returns c = short_stored c.reads_back.ensures
