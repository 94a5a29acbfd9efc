use Rattle.std.proofs.Common.{◌≡◌, length, take, map, min}
use Rattle.std.specs.Option.{option_map}
use Rattle.sf_base.specs.Data.{datum_of}
use Rattle.sf_print.specs.Given.{given_printed}
use Rattle.sf_print.proofs.given.all_len.Given as goal

abbrev pub invariant-loop-unit : goal.invariant-loop-unit
invariant-loop-unit l = l.sum ≡ min l.most (length (given_printed (take l.unit-index l.units) (map (option_map datum_of) l.given)))
