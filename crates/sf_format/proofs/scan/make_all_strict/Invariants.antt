use Rattle.std.proofs.Common.{◌≡◌, ◌++◌, map, take, drop}
use Rattle.sf_format.specs.Strictness.{strictly}
use Rattle.sf_format.proofs.scan.make_all_strict.Given as goal

abbrev pub invariant-loop-directive : goal.invariant-loop-directive
invariant-loop-directive l =
    l.directives ≡ map strictly (take l.directive-index l.initial.directives) ++ drop l.directive-index l.initial.directives
