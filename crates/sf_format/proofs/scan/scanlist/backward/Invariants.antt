use Rattle.std.proofs.Common.{◌≡◌, ◌+◌, length}
use Rattle.sf_format.specs.Scanlist.{backward_range}
use Rattle.sf_format.proofs.scan.scanlist.backward.Given as goal

abbrev pub invariant-loop-rest : goal.invariant-loop-rest
invariant-loop-rest l = record {
  same : backward_range l.at l.rest ≡ backward_range l.from l.bytes;
  whole : l.at + length l.rest ≡ l.from + length l.bytes;
}

abbrev pub decreases-loop-rest : goal.decreases-loop-rest
decreases-loop-rest l = length l.rest
