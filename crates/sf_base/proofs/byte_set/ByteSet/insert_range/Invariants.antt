use Rattle.std.proofs.Common.{◌≡◌, ◌<◌, ◌≤◌, ◌*◌, ◌||◌, ◌&&◌, nat_le, ℕ, length}
use Rattle.sf_base.specs.Sets.{word_has}
use Rattle.sf_base.proofs.byte_set.ByteSet.insert_range.Given as goal

abbrev pub invariant-loop-i : goal.invariant-loop-i
invariant-loop-i l = record {
  four : length l.words ≡ 4;
  filled : (k : ℕ) → k < 64 * l.i → word_has l.words k ≡ ((nat_le l.lo k && nat_le k l.hi) || word_has l.initial.words k);
  others : (k : ℕ) → 64 * l.i ≤ k → word_has l.words k ≡ word_has l.initial.words k;
}
