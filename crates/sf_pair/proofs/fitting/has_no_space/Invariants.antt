use Rattle.std.proofs.Common.{◌≡◌, true, take}
use Rattle.std.specs.List.{list_all}
use Rattle.sf_item.specs.Tests.{is_ink}
use Rattle.sf_pair.proofs.fitting.has_no_space.Given as goal

abbrev pub invariant-loop-byte : goal.invariant-loop-byte
invariant-loop-byte l = list_all is_ink (take l.byte-index l.bytes) ≡ true
