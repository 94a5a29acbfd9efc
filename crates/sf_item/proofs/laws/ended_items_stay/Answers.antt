use Rattle.sf_item.proofs.ItemLaws as laws
use Rattle.sf_item.proofs.laws.ended_items_stay.Goals as goal

pub returns : goal.returns
returns c = laws.item_stays
