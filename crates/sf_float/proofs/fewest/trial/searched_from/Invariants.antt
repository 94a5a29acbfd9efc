use Rattle.std.proofs.Common.{◌≡◌, ◌-◌, ◌≤◌}
use Rattle.sf_float.specs.fewest.Digits.{searched}
use Rattle.sf_float.proofs.fewest.trial.searched_from.Given as goal

abbrev pub invariant-loop-decimals : goal.invariant-loop-decimals
invariant-loop-decimals l =
    (l.decimals ≤ l.most) × (searched l.real (l.most - l.from) (l.cut.first - l.from)
    ≡ searched l.real (l.most - l.decimals) (l.cut.first - l.decimals))

abbrev pub decreases-loop-decimals : goal.decreases-loop-decimals
decreases-loop-decimals l = l.most - l.decimals
