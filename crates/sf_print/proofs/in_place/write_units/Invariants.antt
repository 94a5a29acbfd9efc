use Rattle.std.proofs.Common.{◌≡◌, ◌≤◌, length, take}
use Rattle.sf_print.specs.InPlace.{AreSuited, printed_by}
use Rattle.sf_print.proofs.in_place.write_units.Given as goal

abbrev pub invariant-loop-unit : goal.invariant-loop-unit
invariant-loop-unit g l = record {
  within : l.end ≤ length l.buf;
  written : take l.end l.buf ≡ printed_by (g.V.Printables.value_of l.values) (take l.unit-index l.units);
  suited : AreSuited (g.V.Printables.value_of l.values) (take l.unit-index l.units);
}
