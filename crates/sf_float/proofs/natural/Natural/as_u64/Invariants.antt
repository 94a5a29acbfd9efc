use Rattle.std.proofs.Common.{◌≡◌, ◌+◌, ◌*◌, ◌≤◌}
use Rattle.sf_float.specs.Limbs.{value_below, limb_weight}
use Rattle.sf_float.proofs.natural.Natural.as_u64.Given as goal

-- the limbs from i on were taken
abbrev pub invariant-loop-i : goal.invariant-loop-i
invariant-loop-i l =
    (l.i ≤ l.self-inside.len)
    × (value_below l.self-inside.limbs l.self-inside.len ≡ value_below l.self-inside.limbs l.i + l.number * limb_weight l.i)

abbrev pub decreases-loop-i : goal.decreases-loop-i
decreases-loop-i l = l.i
