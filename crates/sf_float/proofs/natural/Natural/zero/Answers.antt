use Rattle.std.proofs.Common.{replicate, arith}
use Rattle.sf_float.proofs.Limbs.{value_below-zero, zeros}
use Rattle.sf_float.proofs.natural.Natural.zero.Goals as goal

pub invariant_of-result : goal.invariant_of-result
invariant_of-result c = (omega arith, (λ i h. zeros 65 i), (λ i. omega (arith, zeros 65 i)))

pub returns : goal.returns
returns c = value_below-zero (replicate 65 0)
