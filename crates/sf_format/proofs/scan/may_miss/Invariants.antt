use Rattle.std.proofs.Common.{◌≡◌, drop}
use Rattle.sf_format.specs.Proper.{may_miss, may_miss_from}
use Rattle.sf_format.proofs.scan.may_miss.Given as goal

abbrev pub invariant-loop-directive : goal.invariant-loop-directive
invariant-loop-directive l = may_miss l.slot l.directives ≡ may_miss_from l.slot l.left (drop l.directive-index l.directives)
