use Rattle.std.proofs.Common.{◌≡◌, ◌/◌, ◌^◌, ◌≤◌}
use Rattle.sf_float.proofs.fewest.cut.value_of.Given as goal

-- the digits after which k stand
abbrev pub invariant-loop-k : goal.invariant-loop-k
invariant-loop-k l = (l.k ≤ 18) × (l.value ≡ l.n / 10 ^ l.k)

abbrev pub decreases-loop-k : goal.decreases-loop-k
decreases-loop-k l = l.k
