use Rattle.std.proofs.Common.{◌≡◌, ◌-◌, ◌≤◌, drop, length}
use Rattle.sf_report.specs.Memory.{capacity_of}
use Rattle.sf_run.specs.Counting.{Counted, HasCome}
use Rattle.sf_run.specs.declared.quick.Missing.{Missing}
use Rattle.sf_run.proofs.quick.run_rows.Given as goal

abbrev pub invariant-loop-row : goal.invariant-loop-row
invariant-loop-row g l = record {
  short : length l.left ≤ length l.rows;
  fewer : length l.left ≤ l.fn.place.left;
  ahead : l.left ≡ drop (length l.rows - length l.left) l.rows;
  low : length l.rest ≤ length l.front;
  counted : (missing : Missing) → HasCome l.directives l.front l.fn.place missing (g.S.Store.kept l.fn.store)
      → Counted l.directives l.front l.rest (length l.rows - length l.left) missing (g.S.Store.kept l.store);
  room : capacity_of (g.S.Store.kept l.fn.store) ≤ capacity_of (g.S.Store.kept l.store);
}

abbrev pub decreases-loop-row : goal.decreases-loop-row
decreases-loop-row g l = length l.left
