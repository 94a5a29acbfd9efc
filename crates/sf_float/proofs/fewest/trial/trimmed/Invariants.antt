use Rattle.std.proofs.Common.{◌≡◌, ◌+◌, ◌-◌, ◌≤◌}
use Rattle.sf_float.specs.fewest.Digits.{trimmed}
use Rattle.sf_float.proofs.fewest.trial.trimmed.Given as goal

abbrev pub invariant-loop-zeros : goal.invariant-loop-zeros
invariant-loop-zeros l = (l.zeros ≤ 17) × (l.value ≤ l.n) × (trimmed 17 l.n l.last ≡ trimmed (17 - l.zeros) l.value (l.last + l.zeros))

abbrev pub decreases-loop-zeros : goal.decreases-loop-zeros
decreases-loop-zeros l = 17 - l.zeros
