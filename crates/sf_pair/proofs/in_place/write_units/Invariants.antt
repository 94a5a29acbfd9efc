use Rattle.std.proofs.Common.{◌≡◌, ◌≤◌, drop, length, map, take}
use Rattle.sf_print.specs.Printed.{printed}
use Rattle.sf_pair.specs.Fits.{all_fit, conversions, assigned_conversions}
use Rattle.sf_pair.proofs.in_place.write_units.Given as goal

-- the texts of the units so far; whether all fit is left to the others
abbrev pub invariant-loop-unit : goal.invariant-loop-unit
invariant-loop-unit g l = record {
  within : l.end ≤ length l.buf;
  written : take l.end l.buf ≡ printed (take l.unit-index l.units) (map g.V.AsShown.datum l.values);
  fits : all_fit (map g.V.AsShown.datum l.values) (conversions l.units) (assigned_conversions l.directives)
      ≡ all_fit (map g.V.AsShown.datum l.values) (conversions (drop l.unit-index l.units)) (assigned_conversions l.left);
}
