use Rattle.std.proofs.lemmas.Simd.{length-chunk}
use Rattle.sf_item.specs.Wholes.{is_hex_digit}
use lib.Lanes.{chunk}
use Rattle.sf_item.proofs.eight_hex.digit_run.Goals as goal

pub returns : goal.returns
returns c = c.lanes_before.ensures is_hex_digit (chunk 0 8 c.args.piece.now) (length-chunk 0 8 c.args.piece.now c.requires)
    c.other_mask.ensures
