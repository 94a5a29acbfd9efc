use Rattle.std.proofs.Common.{◌≡◌, drop}
use Rattle.sf_format.specs.Proper.{has_optional}
use Rattle.sf_format.proofs.scan.has_optional.Given as goal

abbrev pub invariant-loop-directive : goal.invariant-loop-directive
invariant-loop-directive l = has_optional l.directives ≡ has_optional (drop l.directive-index l.directives)
