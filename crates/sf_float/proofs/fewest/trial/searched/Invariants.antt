use Rattle.std.proofs.Common.{◌≤◌}
use Rattle.sf_float.specs.fewest.Digits.{most_decimals}
use Rattle.sf_float.proofs.fewest.trial.searched.Given as goal

abbrev pub invariant-loop-from : goal.invariant-loop-from
invariant-loop-from l = l.from ≤ most_decimals l.real

abbrev pub decreases-loop-from : goal.decreases-loop-from
decreases-loop-from l = l.from
