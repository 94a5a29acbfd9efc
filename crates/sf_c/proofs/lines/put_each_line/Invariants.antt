use Rattle.std.proofs.Common.{◌≡◌, ◌≤◌, ◌-◌, ℕ, List, length}
use Rattle.sf_c.specs.Lines.{AreAt}
use Rattle.sf_c.proofs.lines.put_each_line.Given as goal

-- the records before are scanned, and those so far
abbrev pub invariant-loop-rest : goal.invariant-loop-rest
invariant-loop-rest l = record {
  records : (texts : List ℕ) → AreAt l.lines l.format l.limit l.text l.fn.done l.fn.values texts l.from
      → AreAt l.lines l.format l.limit l.text l.done l.values texts l.at;
  used : l.done.used ≤ length l.text;
  on : l.fn.done.used ≤ l.done.used;
  few : l.done.records ≤ l.done.used;
  room : l.at ≤ length l.values;
  filled : l.done.filled ≡ l.fn.done.filled;
  failed : l.done.failed ≡ l.fn.done.failed;
}

abbrev pub decreases-loop-rest : goal.decreases-loop-rest
decreases-loop-rest l = length l.text - l.done.used
