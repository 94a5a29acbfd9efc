use Rattle.sf_base.specs.Sets.{has_byte}
use Rattle.sf_base.proofs.Sets.{IsOnly}
use Rattle.sf_base.proofs.byte_set.ByteSet.only_member.Given as goal

abbrev pub invariant-loop-b : goal.invariant-loop-b
invariant-loop-b l = IsOnly l.found l.b (has_byte l.self)
