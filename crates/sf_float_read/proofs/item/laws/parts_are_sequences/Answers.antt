use Rattle.sf_float_read.proofs.ItemLemmas.Joined.{parts_are_sequences}
use Rattle.sf_float_read.proofs.item.laws.parts_are_sequences.Goals as goal

pub returns : goal.returns
returns c = parts_are_sequences
