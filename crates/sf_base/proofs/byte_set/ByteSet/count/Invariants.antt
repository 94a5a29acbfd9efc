use Rattle.std.proofs.Common.{◌≡◌, ◌≤◌}
use Rattle.sf_base.specs.Sets.{has_byte, count_below}
use Rattle.sf_base.proofs.byte_set.ByteSet.count.Given as goal

abbrev pub invariant-loop-b : goal.invariant-loop-b
invariant-loop-b l = record {
  few : l.count ≤ l.b;
  counted : l.count ≡ count_below (has_byte l.self) l.b;
}
