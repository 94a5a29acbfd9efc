use Rattle.std.proofs.Common.{◌≡◌, drop}
use Rattle.sf_format.specs.Slots.{kind_with}
use Rattle.sf_format.specs.Units.{values_of}
use Rattle.sf_format.proofs.print.find_printed_kind.Given as goal

abbrev pub invariant-loop-unit : goal.invariant-loop-unit
invariant-loop-unit l = kind_with l.slot (values_of l.units) ≡ kind_with l.slot (values_of (drop l.unit-index l.units))
