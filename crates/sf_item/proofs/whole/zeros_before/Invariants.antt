use Rattle.std.proofs.Common.{◌≡◌, ◌<◌, ℕ, get_or}
use Rattle.sf_item.proofs.whole.zeros_before.Given as goal

-- the digits so far are zeros
abbrev pub invariant-loop-i : goal.invariant-loop-i
invariant-loop-i l = record { zeros : (k : ℕ) → k < l.i → get_or l.digits k 0 ≡ 48 }
