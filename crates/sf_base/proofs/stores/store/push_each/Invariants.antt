use Rattle.std.proofs.Common.{◌≡◌, ◌≤◌, ◌+◌, take, IsSome}
use Rattle.sf_base.specs.stores.Kept.{with_bytes}
use Rattle.sf_base.proofs.stores.store.push_each.Given as goal

abbrev pub invariant-loop-b : goal.invariant-loop-b
invariant-loop-b g l =
    let kept = g.S.Store.kept in
    IsSome (kept l.store).opened
    × (kept l.store ≡ with_bytes (take l.pushed l.bytes) (kept l.store).room (kept l.initial.store))
    × ((kept l.initial.store).room ≤ (kept l.store).room + l.pushed)
    × (l.pushed ≡ l.b-index)
