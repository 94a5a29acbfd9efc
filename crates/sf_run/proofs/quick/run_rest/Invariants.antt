use Rattle.std.proofs.Common.{◌≤◌, length}
use Rattle.sf_report.specs.Memory.{capacity_of}
use Rattle.sf_run.specs.Counting.{HasCome}
use Rattle.sf_run.proofs.quick.run_rest.Given as goal

abbrev pub invariant-loop-come : goal.invariant-loop-come
invariant-loop-come g l = record {
  short : l.come.left ≤ length l.directives;
  low : l.come.used ≤ length l.front;
  come : HasCome l.directives l.front l.come l.missing (g.S.Store.kept l.store);
  room : capacity_of (g.S.Store.kept l.fn.store) ≤ capacity_of (g.S.Store.kept l.store);
}

abbrev pub decreases-loop-come : goal.decreases-loop-come
decreases-loop-come g l = l.come.left
