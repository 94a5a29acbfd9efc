use Rattle.std.proofs.Common.{◌≡◌, take, map}
use Rattle.sf_base.specs.Data.{datum_of}
use Rattle.sf_print.specs.Printed.{lowest_fault}
use Rattle.sf_print.proofs.judging.find_lowest_fault.Given as goal

abbrev pub invariant-loop-unit : goal.invariant-loop-unit
invariant-loop-unit l = l.found ≡ lowest_fault (take l.unit-index l.units) (map datum_of l.values)
