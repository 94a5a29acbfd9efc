use Rattle.std.proofs.Common.{take, length}
use Rattle.sf_base.specs.stores.Entries.{slots_of, IsAbsent}
use Rattle.sf_base.proofs.StoreLemmas.EntryLemmas.{IsAbsent-from_datum, IsSound-open}
use Rattle.sf_base.proofs.stores.heap_store.HeapStoreStore.open_text.Goals as goal

pub invariant_of-self : goal.invariant_of-self
invariant_of-self c =
    let s = c.self.inside in
    let absent : IsAbsent c.args.slot (slots_of s.entries.items) =
    IsAbsent-from_datum (take s.closed s.bytes.bytes) c.args.slot s.entries.items (rw (← c.self.view_is) at c.requires.absent) in (
      IsSound-open 32 s.entries.items s.closed (length s.bytes.bytes) s.opened c.args.slot c.self.invariant.0
          (c.requires.at_least_one, c.requires.in_range) absent,
      c.self.invariant.1,
    )
