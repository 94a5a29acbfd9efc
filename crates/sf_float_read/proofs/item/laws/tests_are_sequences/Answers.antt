use Rattle.sf_float_read.proofs.ItemLemmas.Deciding.{decided}
use Rattle.sf_float_read.proofs.item.laws.tests_are_sequences.Goals as goal

pub returns : goal.returns
returns c = decided
