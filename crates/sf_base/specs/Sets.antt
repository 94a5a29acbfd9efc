-- Sets of bytes, each seen as the list of its 256 truth values.
use Rattle.std.specs.Prelude.{◌≡◌, ℕ, zero, suc, ◌+◌, ◌/◌, ◌%◌, ◌<◌, ◌==◌, Bool, false, not, Option, Some, None, List, [], ◌∷◌, slice_index}
use Rattle.std.specs.Prelude.{slice_index_or, if◌then◌else◌}
use Rattle.std.specs.Int.{bit_at}
use Rattle.std.specs.List.{prefix_len}

-- the byte is a member
abbrev pub has_byte : List Bool → ℕ → Bool
has_byte set b = slice_index_or set b false

-- how many numbers below n pass the test; its two laws are in proofs/Sets
unfoldable pub count_below : (ℕ → Bool) → ℕ → ℕ
count_below test zero = 0
count_below test (suc n) = count_below test n + (if test n then 1 else 0)

-- the byte that alone is no member: where 255 bytes are members, the first that is none
unfoldable pub lone_lack : List Bool → Option ℕ
lone_lack set = if count_below (has_byte set) 256 == 255 then Some (prefix_len (λ member. member) set) else None

-- ---- how a set is held

-- bit b % 64 of word b / 64 is set
abbrev pub word_has : List ℕ → ℕ → Bool
word_has words b = bit_at (slice_index words (b / 64)) (b % 64) == 1

-- the truth values of the test for so many numbers from b on
unfoldable pub marks_from : ℕ → ℕ → (ℕ → Bool) → List Bool
marks_from zero b test = []
marks_from (suc n) b test = test b ∷ marks_from n (b + 1) test

-- the truth values that the bits of the words are
unfoldable pub marks_of : List ℕ → List Bool
marks_of words = marks_from 256 0 (word_has words)

-- where a byte is given, it alone does not pass the test
abbrev pub LacksOnly : Option ℕ → (ℕ → Bool) → Type 0
LacksOnly None test = Unit {0}
LacksOnly (Some b) test = (k : ℕ) → k < 256 → test k ≡ not (k == b)
