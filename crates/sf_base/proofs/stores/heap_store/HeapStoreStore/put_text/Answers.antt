use Rattle.std.proofs.Common.{◌≡◌, ◌≤◌, ◌++◌, take, drop, length, refl, arith, length-append}
use Rattle.sf_base.specs.stores.Entries.{slots_of, IsAbsent}
use Rattle.sf_base.proofs.StoreLemmas.EntryLemmas.{IsAbsent-from_datum, length-lt-entries, IsSound-put, kept_of-put, closed-all}
use Rattle.sf_base.proofs.stores.heap_store.HeapStoreStore.put_text.Goals as goal

pub push_reserved-requires : goal.push_reserved-requires
push_reserved-requires c =
    let s = c.self.inside in
    let absent : IsAbsent c.args.slot (slots_of s.entries.items) =
    IsAbsent-from_datum (take s.closed s.bytes.bytes) c.args.slot s.entries.items (rw (← c.self.view_is) at c.requires.absent) in
    let few = length-lt-entries 32 s.entries.items s.closed (length s.bytes.bytes) s.opened c.args.slot c.self.invariant.0
    (c.requires.at_least_one, c.requires.in_range) absent in
    omega (arith, s.entries.ok.0, few, c.self.invariant.1.places)

pub invariant_of-self-2 : goal.invariant_of-self-2
invariant_of-self-2 c =
    let s = c.self.inside in
    let absent : IsAbsent c.args.slot (slots_of s.entries.items) =
    IsAbsent-from_datum (take s.closed s.bytes.bytes) c.args.slot s.entries.items (rw (← c.self.view_is) at c.requires.absent) in
    let none = rw (← c.self.view_is) at c.requires.none_opened in
    let text = take c.args.count c.args.piece.now in
    let more : length s.bytes.bytes ≤ length c.append.new.bytes.bytes =
    rw c.in_ok-append.ensures.items (omega (arith, length-append s.bytes.bytes text)) in (
      rw (c.push_reserved.ensures.items, c.len-to.ensures.count)
          (IsSound-put 32 s.entries.items s.closed (length s.bytes.bytes) (length c.append.new.bytes.bytes) s.opened
          (drop s.closed s.bytes.bytes) c.args.slot c.self.invariant.0 none more (c.requires.at_least_one, c.requires.in_range) absent),
      record {
        held = c.append.ensures.held;
        sure = c.append.ensures.fits;
        places = omega (arith, c.push_reserved.ensures.capacity, c.self.invariant.1.places);
      },
    )

pub returns-clause-ok : goal.returns-clause-ok
returns-clause-ok c =
    let s = c.self.inside in
    let none = rw (← c.self.view_is) at c.requires.none_opened in
    let whole = closed-all 32 (slots_of s.entries.items) s.closed (length s.bytes.bytes) s.opened
    (drop s.closed s.bytes.bytes) c.self.invariant.0.under_way none in
    let text = take c.args.count c.args.piece.now in
    let len : c.len-to.result ≡ length (s.bytes.bytes ++ text) =
    rw (c.len-to.ensures.count, c.in_ok-append.ensures.items) refl in
    rw (c.push_reserved.ensures.items, c.in_ok-append.ensures.items, ← c.self.view_is)
    (kept_of-put s.entries.items s.bytes.bytes text s.closed c.len-to.result c.args.slot 0 _ s.opened none whole len
    c.self.invariant.0.within)
