use Rattle.std.proofs.Common.{◌≡◌, None, length}
use Rattle.sf_format.specs.Scanlist.{backward_range}
use Rattle.sf_format.proofs.Scanlists.{HasMembers}
use Rattle.sf_format.proofs.scan.scanlist.members_set.Given as goal

abbrev pub invariant-loop-rest : goal.invariant-loop-rest
invariant-loop-rest l = record {
  sized : length l.set ≡ 256;
  members : HasMembers l.set l.rest l.members;
  forward : backward_range 0 l.rest ≡ None;
}

abbrev pub decreases-loop-rest : goal.decreases-loop-rest
decreases-loop-rest l = length l.rest
