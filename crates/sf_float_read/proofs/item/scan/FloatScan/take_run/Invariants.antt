use Rattle.std.proofs.Common.{◌≡◌, ◌-◌, ◌≤◌, length, take, Some}
use Rattle.sf_float_read.specs.item.Tests.{read}
use Rattle.sf_float_read.proofs.item.scan.FloatScan.take_run.Given as goal

abbrev pub invariant-loop-at : goal.invariant-loop-at
invariant-loop-at l = record {
  within : l.at ≤ length l.piece;
  read_so : read (Some l.fn.self.reached) (take l.at l.piece) ≡ Some l.self.reached;
  nothing : l.at ≡ 0 → l.self ≡ l.fn.self;
}

abbrev pub decreases-loop-at : goal.decreases-loop-at
decreases-loop-at l = length l.piece - l.at
