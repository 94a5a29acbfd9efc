use Rattle.std.proofs.Common.{length, take, drop, rules, arith}
use Rattle.std.proofs.lemmas.Grind.{common_steps}
use Rattle.sf_base.specs.stores.Entries.{slots_of, IsAbsent}
use Rattle.sf_base.proofs.StoreLemmas.EntryLemmas.{IsAbsent-from_datum, length-lt-entries, IsSound-push, IsUnderWay-push}
use Rattle.sf_base.proofs.stores.fixed_store.FixedStoreStore.set_real.Goals as goal

pub push-requires : goal.push-requires
push-requires g c =
    let s = c.self.inside in
    let absent : IsAbsent c.args.slot (slots_of s.entries.items) =
    IsAbsent-from_datum (take s.closed s.bytes.items) c.args.slot s.entries.items (rw (← c.self.view_is) at c.requires.absent) in
    let few = length-lt-entries g.row.SLOTS s.entries.items s.closed (length s.bytes.items) s.opened c.args.slot c.self.invariant.0
    (c.requires.at_least_one, c.requires.in_range) absent in
    search rules

pub invariant_of-self : goal.invariant_of-self
invariant_of-self g c =
    let s = c.self.inside in
    let absent : IsAbsent c.args.slot (slots_of s.entries.items) =
    IsAbsent-from_datum (take s.closed s.bytes.items) c.args.slot s.entries.items (rw (← c.self.view_is) at c.requires.absent) in
    let sound = c.self.invariant.0 in
    let other = rw (← c.self.view_is) at c.requires.not_opened in
    let under_way = IsUnderWay-push _ (slots_of s.entries.items) s.closed (length s.bytes.items) s.opened
    (drop s.closed s.bytes.items) c.args.slot sound.under_way other in (
      rw c.push.ensures.items (IsSound-push _ s.entries.items s.closed s.closed (length s.bytes.items) s.opened s.opened _ sound
          (omega arith) sound.closed_held (c.requires.at_least_one, c.requires.in_range) absent tt under_way),
      c.self.invariant.1,
    )

pub returns : goal.returns
returns g c = grind (arith, common_steps)
