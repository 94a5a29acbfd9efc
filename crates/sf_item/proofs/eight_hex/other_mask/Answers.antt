use Rattle.sf_item.proofs.EightHex.{mask_of_values}
use Rattle.sf_item.proofs.eight_hex.other_mask.Goals as goal
use lib.Lanes.{chunk}

pub returns : goal.returns
returns c = mask_of_values c.values_of.result (chunk 0 8 c.args.piece.now) c.values_of.ensures.eight c.values_of.ensures.others
