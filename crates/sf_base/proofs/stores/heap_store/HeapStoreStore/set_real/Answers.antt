use Rattle.std.proofs.Common.{take, drop, arith, length}
use Rattle.sf_base.specs.stores.Entries.{slots_of, IsAbsent}
use Rattle.sf_base.proofs.StoreLemmas.EntryLemmas.{IsAbsent-from_datum, length-lt-entries, IsSound-push, IsUnderWay-push}
use Rattle.sf_base.proofs.stores.heap_store.HeapStoreStore.set_real.Goals as goal

pub push_reserved-requires : goal.push_reserved-requires
push_reserved-requires c =
    let s = c.self.inside in
    let absent : IsAbsent c.args.slot (slots_of s.entries.items) =
    IsAbsent-from_datum (take s.closed s.bytes.bytes) c.args.slot s.entries.items (rw (← c.self.view_is) at c.requires.absent) in
    let few = length-lt-entries 32 s.entries.items s.closed (length s.bytes.bytes) s.opened c.args.slot c.self.invariant.0
    (c.requires.at_least_one, c.requires.in_range) absent in
    omega (arith, s.entries.ok.0, few, c.self.invariant.1.places)

pub invariant_of-self : goal.invariant_of-self
invariant_of-self c =
    let s = c.self.inside in
    let absent : IsAbsent c.args.slot (slots_of s.entries.items) =
    IsAbsent-from_datum (take s.closed s.bytes.bytes) c.args.slot s.entries.items (rw (← c.self.view_is) at c.requires.absent) in
    let sound = c.self.invariant.0 in
    let other = rw (← c.self.view_is) at c.requires.not_opened in
    let under_way = IsUnderWay-push 32 (slots_of s.entries.items) s.closed (length s.bytes.bytes) s.opened
    (drop s.closed s.bytes.bytes) c.args.slot sound.under_way other in (
      rw c.push_reserved.ensures.items (IsSound-push 32 s.entries.items s.closed s.closed (length s.bytes.bytes) s.opened s.opened _ sound
          (omega arith) sound.closed_held (c.requires.at_least_one, c.requires.in_range) absent tt under_way),
      record {
        held = c.self.invariant.1.held;
        sure = c.self.invariant.1.sure;
        places = omega (arith, c.push_reserved.ensures.capacity, c.self.invariant.1.places);
      },
    )
