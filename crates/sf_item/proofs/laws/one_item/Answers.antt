use Rattle.sf_item.proofs.ItemLaws as laws
use Rattle.sf_item.proofs.laws.one_item.Goals as goal

pub returns : goal.returns
returns c = laws.one_item
