use Rattle.std.proofs.Common.{◌≡◌, ◌+◌, ◌-◌, ◌≤◌, length, drop}
use Rattle.std.specs.List.{prefix_len}
use Rattle.sf_base.specs.Bytes.{is_of_run}
use Rattle.sf_base.proofs.runs.run.Given as goal

-- the bytes so far are of the run
abbrev pub invariant-loop-at : goal.invariant-loop-at
invariant-loop-at l = record {
  within : l.at ≤ length l.piece;
  front : prefix_len (is_of_run l.white) l.piece ≡ l.at + prefix_len (is_of_run l.white) (drop l.at l.piece);
}

abbrev pub decreases-loop-at : goal.decreases-loop-at
decreases-loop-at l = length l.piece - l.at

abbrev pub invariant-loop-at-2 : goal.invariant-loop-at-2
invariant-loop-at-2 l = record {
  within : l.at ≤ length l.piece;
  front : prefix_len (is_of_run l.white) l.piece ≡ l.at + prefix_len (is_of_run l.white) (drop l.at l.piece);
}

abbrev pub decreases-loop-at-2 : goal.decreases-loop-at-2
decreases-loop-at-2 l = length l.piece - l.at
