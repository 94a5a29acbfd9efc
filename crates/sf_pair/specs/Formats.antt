-- The two formats of a pair.
use Rattle.std.specs.Prelude.{◌≡◌, List, None}
use Rattle.sf_format.specs.declared.unit.Unit.{Unit as PrintUnit}
use Rattle.sf_format.specs.declared.directive.Directive.{Directive}
use Rattle.sf_format.specs.Units.{AreAccepted}
use Rattle.sf_format.specs.Proper.{IsAccepted}
use Rattle.sf_pair.specs.Walk.{pair_fault}

pub record Formats : Type 0 where
  pub print : List PrintUnit
  pub scan : List Directive

-- what holds of each pair: both are accepted formats, and the walk over them finds no fault
pub record IsChecked (us : List PrintUnit) (ds : List Directive) : Type 0 where
  pub printed : AreAccepted us
  pub scanned : IsAccepted ds
  pub found : pair_fault us ds ≡ None
