use Rattle.std.proofs.Common.{length, take}
use Rattle.sf_base.specs.stores.Entries.{slots_of, IsAbsent}
use Rattle.sf_base.proofs.StoreLemmas.EntryLemmas.{IsAbsent-from_datum, IsSound-open}
use Rattle.sf_base.proofs.stores.fixed_store.FixedStoreStore.open_text.Goals as goal

pub invariant_of-self : goal.invariant_of-self
invariant_of-self g c =
    let s = c.self.inside in
    let absent : IsAbsent c.args.slot (slots_of s.entries.items) =
    IsAbsent-from_datum (take s.closed s.bytes.items) c.args.slot s.entries.items (rw (← c.self.view_is) at c.requires.absent) in (
      IsSound-open _ s.entries.items s.closed (length s.bytes.items) s.opened c.args.slot c.self.invariant.0
          (c.requires.at_least_one, c.requires.in_range) absent,
      c.self.invariant.1,
    )
