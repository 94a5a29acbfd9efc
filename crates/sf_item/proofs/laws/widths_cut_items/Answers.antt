use Rattle.sf_item.proofs.ItemLaws as laws
use Rattle.sf_item.proofs.laws.widths_cut_items.Goals as goal

pub returns : goal.returns
returns c = laws.width_cuts
