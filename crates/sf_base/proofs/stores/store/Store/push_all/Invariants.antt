use Rattle.std.proofs.Common.{◌≡◌, ◌≤◌, ◌+◌, take, IsSome}
use Rattle.sf_base.specs.stores.Kept.{with_bytes}
use Rattle.sf_base.proofs.stores.store.Store.push_all.Given as goal

-- the bytes so far were pushed, and the others have room
abbrev pub invariant-loop-b : goal.invariant-loop-b
invariant-loop-b g l =
    let kept = g.Self.Store.kept in record {
      opened : IsSome (kept l.self).opened;
      pushed : kept l.self ≡ with_bytes (take l.b-index l.bytes) (kept l.self).room (kept l.initial.self);
      room : (kept l.initial.self).room ≤ (kept l.self).room + l.b-index;
    }
