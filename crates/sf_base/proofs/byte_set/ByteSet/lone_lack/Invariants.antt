use Rattle.sf_base.specs.Sets.{has_byte}
use Rattle.sf_base.proofs.Lacks.{LacksSoFar}
use Rattle.sf_base.proofs.byte_set.ByteSet.lone_lack.Given as goal

abbrev pub invariant-loop-b : goal.invariant-loop-b
invariant-loop-b l = LacksSoFar l.found l.b (has_byte l.self)
