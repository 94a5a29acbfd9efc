use Rattle.std.proofs.Common.{◌≡◌, drop}
use Rattle.sf_format.specs.Proper.{has_group}
use Rattle.sf_format.proofs.scan.has_group.Given as goal

abbrev pub invariant-loop-directive : goal.invariant-loop-directive
invariant-loop-directive l = has_group l.directives ≡ has_group (drop l.directive-index l.directives)
