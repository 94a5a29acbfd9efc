use Rattle.std.proofs.Common.{◌≡◌, true, take}
use Rattle.std.specs.List.{list_all}
use Rattle.sf_base.specs.Sets.{has_byte}
use Rattle.sf_pair.proofs.fitting.are_members.Given as goal

abbrev pub invariant-loop-byte : goal.invariant-loop-byte
invariant-loop-byte l = list_all (has_byte l.members) (take l.byte-index l.bytes) ≡ true
