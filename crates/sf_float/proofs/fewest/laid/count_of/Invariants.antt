use Rattle.std.proofs.Common.{◌-◌, ◌^◌, ◌<◌, ◌≤◌}
use Rattle.sf_float.proofs.fewest.laid.count_of.Given as goal

abbrev pub invariant-loop-count : goal.invariant-loop-count
invariant-loop-count l = (0 < l.count) × (l.count ≤ 20) × (1 < l.count → 10 ^ (l.count - 1) ≤ l.n)

abbrev pub decreases-loop-count : goal.decreases-loop-count
decreases-loop-count l = 20 - l.count
