use Rattle.std.proofs.Common.{◌≡◌, ℕ, false, arith, subst}
use Rattle.std.specs.Prelude.{IsSome}
use Rattle.sf_base.specs.Sets.{has_byte}
use Rattle.sf_base.proofs.Lacks.{LacksSoFar, lone_lack_is, lone_lack_of_two}
use Rattle.sf_base.proofs.byte_set.ByteSet.lone_lack.Goals as goal

pub returns-then-is_some : goal.returns-then-is_some
returns-then-is_some c =
    let some : IsSome c.loop-b.found = cc in
    let second : has_byte c.args.self.now c.loop-b.b ≡ false = cc in
    lone_lack_of_two c.args.self.now c.loop-b.found c.loop-b.b some c.loop-b.invariant (omega arith) second

pub returns : goal.returns
returns c =
    let all : c.loop-b.b ≡ 256 = omega (arith, c.loop-b-test.false, c.loop-b.auto.b-end) in
    lone_lack_is c.args.self.now c.loop-b.found
    (subst (λ (n : ℕ). LacksSoFar c.loop-b.found n (has_byte c.args.self.now)) all c.loop-b.invariant)
