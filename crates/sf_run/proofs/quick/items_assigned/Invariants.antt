use Rattle.std.proofs.Common.{◌≡◌, ◌+◌, drop}
use Rattle.sf_format.specs.Layout.{items_assigned}
use Rattle.sf_run.proofs.quick.items_assigned.Given as goal

abbrev pub invariant-loop-directive : goal.invariant-loop-directive
invariant-loop-directive l = l.count + items_assigned (drop l.directive-index l.directives) ≡ items_assigned l.directives
