use Rattle.std.proofs.Common.{◌≡◌, ◌+◌, drop}
use Rattle.std.specs.List.{prefix_len}
use Rattle.sf_base.specs.Sets.{has_byte}
use Rattle.sf_base.proofs.byte_set.ByteSet.run.Given as goal

-- the bytes so far are members
abbrev pub invariant-loop-i : goal.invariant-loop-i
invariant-loop-i l = prefix_len (has_byte l.self) l.bytes ≡ l.i + prefix_len (has_byte l.self) (drop l.i l.bytes)
