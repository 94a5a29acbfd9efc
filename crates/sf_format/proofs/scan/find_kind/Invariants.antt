use Rattle.std.proofs.Common.{◌≡◌, drop}
use Rattle.sf_format.specs.Proper.{kind_at}
use Rattle.sf_format.proofs.scan.find_kind.Given as goal

abbrev pub invariant-loop-directive : goal.invariant-loop-directive
invariant-loop-directive l = kind_at l.slot l.directives ≡ kind_at l.slot (drop l.directive-index l.directives)
