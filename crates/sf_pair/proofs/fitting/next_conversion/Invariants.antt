use Rattle.std.proofs.Common.{◌≡◌, drop}
use Rattle.sf_pair.specs.Fits.{conversions}
use Rattle.sf_pair.proofs.fitting.next_conversion.Given as goal

abbrev pub invariant-loop-i : goal.invariant-loop-i
invariant-loop-i l = conversions l.units ≡ conversions (drop l.i l.units)
