use Rattle.std.proofs.Common.{arith, None, length}
use Rattle.sf_base.proofs.StoreLemmas.EntryLemmas.{length-lt-entries, IsSound-push, kept_of-close}
use Rattle.sf_base.proofs.stores.heap_store.HeapStoreStore.close_text.Goals as goal

pub push_reserved-requires : goal.push_reserved-requires
push_reserved-requires c =
    let s = c.self.inside in
    let sound = c.self.invariant.0 in
    let under_way = rw c.in-Some.is at sound.under_way in
    let few = length-lt-entries 32 s.entries.items s.closed (length s.bytes.bytes) s.opened c.in-Some.slot sound under_way.0 under_way.1 in
    omega (arith, s.entries.ok.0, few, c.self.invariant.1.places)

pub invariant_of-self : goal.invariant_of-self
invariant_of-self c =
    let s = c.self.inside in
    let sound = c.self.invariant.0 in
    let under_way = rw c.in-Some.is at sound.under_way in (
      rw c.push_reserved.ensures.items (IsSound-push 32 s.entries.items s.closed c.len-end.result
          (length s.bytes.bytes) s.opened None _ sound (omega (arith, sound.closed_held, c.len-end.ensures.count))
          (omega arith) under_way.0 under_way.1 (omega (arith, sound.closed_held, c.len-end.ensures.count), omega arith)
          c.len-end.ensures.count),
      record {
        held = c.self.invariant.1.held;
        sure = c.self.invariant.1.sure;
        places = omega (arith, c.push_reserved.ensures.capacity, c.self.invariant.1.places);
      },
    )

pub returns : goal.returns
returns c =
    let s = c.self.inside in
    rw (c.push_reserved.ensures.items, ← c.self.view_is, c.in-Some.is)
    (kept_of-close s.entries.items s.bytes.bytes s.closed c.len-end.result c.in-Some.slot _ c.len-end.ensures.count
    c.self.invariant.0.within)
