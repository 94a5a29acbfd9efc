use Rattle.std.proofs.Common.{◌≡◌, ◌<◌, ◌^◌, ℕ, get_or, bit_and}
use Rattle.std.specs.Int.{bit_not, w64}
use Rattle.sf_base.proofs.byte_set.ByteSet.subset.Given as goal

abbrev pub invariant-loop-i : goal.invariant-loop-i
invariant-loop-i l = (j : ℕ) → j < l.i → (bit_and (get_or l.self-inside.words j 0) (bit_not w64 (get_or l.other-inside.words j 0)) ≡ 0)
    × (get_or l.other-inside.words j 0 < 2 ^ 64)
