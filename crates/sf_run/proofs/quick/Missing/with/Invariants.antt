use Rattle.std.proofs.Common.{◌≡◌, ◌+◌, drop}
use Rattle.sf_format.specs.Layout.{items_assigned, items_taken}
use Rattle.sf_run.proofs.quick.Missing.with.Given as goal

abbrev pub invariant-loop-directive : goal.invariant-loop-directive
invariant-loop-directive l = record {
  assigned : l.missing.assigned + items_assigned (drop l.directive-index l.directives)
      ≡ l.fn.self.assigned + items_assigned l.directives;
  converted : l.missing.converted + items_taken (drop l.directive-index l.directives)
      ≡ l.fn.self.converted + items_taken l.directives;
}
