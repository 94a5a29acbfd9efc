use Rattle.std.proofs.Common.{eqb, w8, arith}
use Rattle.std.proofs.lemmas.Simd.{bitmask_splat, length-chunk}
use lib.Lanes.{chunk}
use Rattle.sf_loops.proofs.NewlineMasks.{newlines_in_front, one_moved}
use Rattle.sf_loops.proofs.newlines.newlines_of.Goals as goal

pub returns : goal.returns
returns c =
    let bytes = c.args.bytes.now in
    newlines_in_front bytes c.args.count c.requires.few _ _
    (bitmask_splat w8 eqb (chunk 0 16 bytes) 16 10 (length-chunk 0 16 bytes c.requires.room) (omega arith))
    (one_moved c.args.count c.requires.few)
