use Rattle.std.proofs.Common.{◌≡◌, length, take, map, min}
use Rattle.sf_base.specs.Data.{datum_of}
use Rattle.sf_print.specs.Printed.{printed}
use Rattle.sf_print.proofs.print.units_len.Given as goal

abbrev pub invariant-loop-unit : goal.invariant-loop-unit
invariant-loop-unit l = l.sum ≡ min l.most (length (printed (take l.unit-index l.units) (map datum_of l.values)))
