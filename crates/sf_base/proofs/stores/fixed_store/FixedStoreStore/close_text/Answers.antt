use Rattle.std.proofs.Common.{rules, arith, length, None}
use Rattle.sf_base.proofs.StoreLemmas.EntryLemmas.{length-lt-entries, IsSound-push, kept_of-close}
use Rattle.sf_base.proofs.stores.fixed_store.FixedStoreStore.close_text.Goals as goal

pub push-requires : goal.push-requires
push-requires g c =
    let s = c.self.inside in
    let sound = c.self.invariant.0 in
    let under_way = rw c.in-Some.is at sound.under_way in
    let few = length-lt-entries g.row.SLOTS s.entries.items s.closed
    (length s.bytes.items) s.opened c.in-Some.slot sound under_way.0 under_way.1 in
    search rules

pub invariant_of-self : goal.invariant_of-self
invariant_of-self g c =
    let s = c.self.inside in
    let sound = c.self.invariant.0 in
    let under_way = rw c.in-Some.is at sound.under_way in (
      rw c.push.ensures.items (IsSound-push _ s.entries.items s.closed c.len-end.result (length s.bytes.items) s.opened None _ sound
          (omega (arith, sound.closed_held, c.len-end.ensures.value)) (omega (arith, c.len-end.ensures.value)) under_way.0 under_way.1
          (omega (arith, sound.closed_held, c.len-end.ensures.value), omega arith) c.len-end.ensures.value),
      c.self.invariant.1,
    )

pub returns : goal.returns
returns g c =
    let s = c.self.inside in
    rw (c.push.ensures.items, ← c.self.view_is, c.in-Some.is)
    (kept_of-close s.entries.items s.bytes.items s.closed c.len-end.result c.in-Some.slot _ c.len-end.ensures.value
    c.self.invariant.0.within)
