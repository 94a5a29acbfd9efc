use Rattle.std.proofs.Common.{◌≡◌, ◌+◌, ◌-◌, ◌≤◌, ◌++◌, take, replicate}
use Rattle.sf_float.proofs.hexadecimal.put_zeros.Given as goal

abbrev pub invariant-loop-left : goal.invariant-loop-left
invariant-loop-left l =
    (l.left ≤ l.count) × (l.end ≡ l.at + (l.count - l.left)) × (take l.end l.out ≡ take l.at l.fn.out ++ replicate (l.count - l.left) 48)

abbrev pub decreases-loop-left : goal.decreases-loop-left
decreases-loop-left l = l.left
