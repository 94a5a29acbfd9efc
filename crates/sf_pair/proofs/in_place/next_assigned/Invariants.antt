use Rattle.std.proofs.Common.{◌≡◌, drop}
use Rattle.sf_pair.specs.Fits.{assigned_conversions}
use Rattle.sf_pair.proofs.in_place.next_assigned.Given as goal

abbrev pub invariant-loop-i : goal.invariant-loop-i
invariant-loop-i l = assigned_conversions l.directives ≡ assigned_conversions (drop l.i l.directives)
