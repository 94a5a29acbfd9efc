use Rattle.std.proofs.Common.{◌≡◌, ◌<◌, ◌≤◌, ◌^◌, ℕ, length, get_or}
use Rattle.std.specs.Int.{bit_not, w64}
use Rattle.sf_base.proofs.byte_set.ByteSet.complement.Given as goal

abbrev pub invariant-loop-i : goal.invariant-loop-i
invariant-loop-i l = record {
  four : length l.self-inside.words ≡ 4;
  turned : (j : ℕ) → j < l.i → get_or l.self-inside.words j 0 ≡ bit_not w64 (get_or l.initial.self-inside.words j 0);
  fits : (j : ℕ) → j < l.i → get_or l.initial.self-inside.words j 0 < 2 ^ 64;
  others : (j : ℕ) → l.i ≤ j → get_or l.self-inside.words j 0 ≡ get_or l.initial.self-inside.words j 0;
}
