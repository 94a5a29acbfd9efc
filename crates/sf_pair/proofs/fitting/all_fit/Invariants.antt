use Rattle.std.proofs.Common.{◌≡◌, drop, map}
use Rattle.sf_base.specs.Data.{datum_of}
use Rattle.sf_pair.specs.Fits.{all_fit, conversions, assigned_conversions}
use Rattle.sf_pair.proofs.fitting.all_fit.Given as goal

abbrev pub invariant-loop-directive : goal.invariant-loop-directive
invariant-loop-directive l =
    all_fit (map datum_of l.values) (conversions l.units) (assigned_conversions l.directives)
    ≡ all_fit (map datum_of l.values) (conversions l.left) (assigned_conversions (drop l.directive-index l.directives))
