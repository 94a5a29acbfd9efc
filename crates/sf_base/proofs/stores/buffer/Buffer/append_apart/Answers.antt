use Rattle.std.proofs.Common.{◌≡◌, ◌≤◌, ◌+◌, length, take, arith}
use Rattle.std.proofs.lemmas.List.{length-take-le}
use Rattle.sf_base.proofs.StoreLemmas.EntryLemmas.{front_moved}
use Rattle.sf_base.proofs.StoreLemmas.Moves.{moved_over}
use Rattle.sf_base.proofs.stores.buffer.Buffer.append_apart.Goals as goal
use Rattle.sf_base.proofs.stores.buffer.Buffer.append_apart.Goals.{then-moved-len, else-moved-len+in_ok-extend_from_slice}

pub returns-clause-ok : goal.returns-clause-ok
returns-clause-ok c =
    let b = c.self.inside in
    let inside : b.len ≤ length b.block.items = omega (arith, c.self.invariant, b.block.ok.0) in
    elim c.if-moved-len.branch [
      | then-moved-len w ↦
          let same : length w.move_over.new.bytes ≡ length b.block.items = rw (← w.deref_mut.ensures.value) w.move_over.ensures.len in
          rw (w.self-inside-is, ← c.in_ok-make_room.ensures.bytes, ← c.self.view_is)
          (moved_over b.len c.args.count c.max-moved.result b.block.len b.block.items w.move_over.new.bytes c.args.piece.now b.block.ok.0
          same
          inside (omega (arith, c.max-moved.ensures, c.min-2.ensures, c.min.ensures, c.requires)) (omega (arith, c.max-moved.ensures))
          (rw (← w.deref_mut.ensures.value) w.move_over.ensures.moved))
      | else-moved-len+in_ok-extend_from_slice w ↦
          let front : length (take b.len b.block.items) ≡ b.len = length-take-le b.len b.block.items inside in
          rw (w.self-inside-is, ← c.in_ok-make_room.ensures.bytes, ← c.self.view_is)
          (rw (w.in_ok-extend_from_slice.ensures.items, w.truncate.ensures.items)
          (front_moved (take b.len b.block.items) c.args.piece.now c.args.count c.max-moved.result (b.len + c.args.count)
          (omega (arith, c.max-moved.ensures)) (omega (arith, front))))
    ]
