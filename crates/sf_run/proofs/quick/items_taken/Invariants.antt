use Rattle.std.proofs.Common.{◌≡◌, ◌+◌, ◌≤◌, drop}
use Rattle.sf_format.specs.Layout.{items_taken}
use Rattle.sf_run.proofs.quick.items_taken.Given as goal

abbrev pub invariant-loop-directive : goal.invariant-loop-directive
invariant-loop-directive l = record {
  same : l.count + items_taken (drop l.directive-index l.directives) ≡ items_taken l.directives;
  few : l.count ≤ l.directive-index;
}
