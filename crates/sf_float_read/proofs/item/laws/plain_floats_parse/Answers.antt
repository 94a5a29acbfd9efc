use Rattle.sf_float_read.proofs.ItemLemmas.Parses.{plain_parses}
use Rattle.sf_float_read.proofs.item.laws.plain_floats_parse.Goals as goal

pub returns : goal.returns
returns c = plain_parses
