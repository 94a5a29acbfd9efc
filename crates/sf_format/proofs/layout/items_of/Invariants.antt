use Rattle.std.proofs.Common.{◌≡◌, ◌+◌, ◌≤◌, drop}
use Rattle.sf_format.specs.Layout.{items_assigned, items_taken}
use Rattle.sf_format.proofs.layout.items_of.Given as goal

abbrev pub invariant-loop-directive : goal.invariant-loop-directive
invariant-loop-directive l = record {
  taken : l.taken + items_taken (drop l.directive-index l.directives) ≡ items_taken l.directives;
  short : l.taken ≤ l.directive-index;
  assigned : l.assigned + items_assigned (drop l.directive-index l.directives) ≡ items_assigned l.directives;
}
