use Rattle.std.proofs.Common.{◌≡◌, take, map}
use Rattle.std.specs.Option.{option_map}
use Rattle.sf_base.specs.Data.{datum_of}
use Rattle.sf_print.specs.Given.{lowest_given_fault}
use Rattle.sf_print.proofs.given.find_lowest_given_fault.Given as goal

abbrev pub invariant-loop-unit : goal.invariant-loop-unit
invariant-loop-unit l = l.found ≡ lowest_given_fault (take l.unit-index l.units) (map (option_map datum_of) l.given)
