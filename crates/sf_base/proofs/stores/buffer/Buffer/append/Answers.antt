use Rattle.std.proofs.Common.{◌≡◌, length, arith}
use Rattle.std.proofs.lemmas.List.{length-take-le}
use Rattle.sf_base.proofs.StoreLemmas.Moves.{moved_over}
use Rattle.sf_base.proofs.stores.buffer.Buffer.append.Goals as goal

pub returns-then-len-self-ge-MOVED-clause-ok : goal.returns-then-len-self-ge-MOVED-clause-ok
returns-then-len-self-ge-MOVED-clause-ok c =
    let b = c.self.inside in
    let same : length c.move_sixteen.new.bytes ≡ length b.block.items = rw (← c.deref_mut.ensures.value) c.move_sixteen.ensures.len in
    rw (← c.self.view_is)
    (moved_over b.len c.args.count 16 b.block.len b.block.items c.move_sixteen.new.bytes c.args.piece.now b.block.ok.0 same
    (omega (arith, c.self.invariant, b.block.ok.0)) (omega (arith, c.if-piece-ge-MOVED.true)) (omega (arith, c.if-count-le-MOVED.true))
    (rw (length-take-le 16 c.args.piece.now (omega (arith, c.if-piece-ge-MOVED.true)), ← c.deref_mut.ensures.value)
    c.move_sixteen.ensures.moved))
