use Rattle.std.proofs.Common.{◌≡◌, ◌+◌, length, arith}
use Rattle.std.proofs.lemmas.Simd.{length-chunk, take_more_put_chunk}
use lib.Lanes.{chunk}
use Rattle.sf_base.proofs.stores.buffer.move_sixteen.Goals as goal

pub returns-clause-moved : goal.returns-clause-moved
returns-clause-moved c =
    let long : length (chunk 0 16 c.args.piece.now) ≡ 16 = length-chunk 0 16 c.args.piece.now c.requires.whole in
    take_more_put_chunk c.args.at c.args.bytes.now (chunk 0 16 c.args.piece.now) (c.args.at + 16) (omega (arith, long)) c.requires.room
