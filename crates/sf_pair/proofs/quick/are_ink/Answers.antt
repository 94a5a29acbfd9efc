use Rattle.sf_pair.proofs.InkMasks.{ink_by_mask}
use Rattle.sf_pair.proofs.quick.are_ink.Goals as goal

pub returns : goal.returns
returns c = ink_by_mask c.args.bytes.now c.args.at c.args.count c.white_mask.result c.requires.0 c.requires.1 c.white_mask.ensures
