use Rattle.std.proofs.Common.{◌≡◌, drop, map}
use Rattle.sf_base.specs.Data.{datum_at}
use Rattle.sf_base.specs.stores.Entries.{assigned_in}
use Rattle.sf_base.proofs.stores.entries.find_shown.Given as goal

abbrev pub invariant-loop-entry : goal.invariant-loop-entry
invariant-loop-entry l =
    datum_at l.slot (map (assigned_in l.closed) (drop l.entry-index l.entries)) ≡ datum_at l.slot (map (assigned_in l.closed) l.entries)
