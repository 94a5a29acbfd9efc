-- What follows for sets of bytes: how many members there are, and which bytes the bits of the words stand for.
use Rattle.std.specs.Prelude.{◌≡◌, ◌+◌, ◌<◌, ◌≤◌, ◌==◌, ℕ, zero, suc, Bool, true, false, not, Option, Some, None, IfSome, List, [], ◌∷◌}
use Rattle.std.specs.Prelude.{length, get_or, if◌then◌else◌, refl}
use Rattle.std.proofs.Common.{arith, add-one, ap, ap₂, cond, sym, ◌∙◌, Fits, w8}
use Rattle.std.proofs.lemmas.List.Sums.{prefix_len_is}
use Rattle.std.specs.List.{prefix_len}
use Rattle.sf_base.specs.Sets.{has_byte, count_below, word_has, marks_from, marks_of, LacksOnly}

pub count_below-zero : (test : ℕ → Bool) → count_below test 0 ≡ 0
unfolding count_below
count_below-zero test = refl

pub count_below-more : (test : ℕ → Bool) (n : ℕ) → count_below test (n + 1) ≡ count_below test n + (if test n then 1 else 0)
unfolding count_below
count_below-more test n = rw add-one refl

-- ---- the truth values that four words stand for

length-marks_from : (n b : ℕ) (test : ℕ → Bool) → length (marks_from n b test) ≡ n
unfolding marks_from
length-marks_from zero b test = refl
length-marks_from (suc n) b test = ap suc (length-marks_from n (b + 1) test)

marks_from_at : (n b k : ℕ) (test : ℕ → Bool) → k < n → get_or (marks_from n b test) k false ≡ test (b + k)
unfolding marks_from
marks_from_at zero b k test h = absurd (omega (arith, h))
marks_from_at (suc n) b zero test h = let e : b ≡ b + 0 = omega arith in ap test e
marks_from_at (suc n) b (suc k) test h =
    let e : (b + 1) + k ≡ b + suc k = omega arith in
    marks_from_at n (b + 1) k test (omega (arith, h)) ∙ ap test e

pub length-marks_of : (words : List ℕ) → length (marks_of words) ≡ 256
unfolding marks_of
length-marks_of words = length-marks_from 256 0 (word_has words)

pub has_byte-marks_of : (words : List ℕ) (k : ℕ) → k < 256 → has_byte (marks_of words) k ≡ word_has words k
unfolding marks_of
has_byte-marks_of words k below = let e : 0 + k ≡ k = omega arith in marks_from_at 256 0 k (word_has words) below ∙ ap (word_has words) e

-- the same of the set that they stand for
pub has_byte-held : (words : List ℕ) (set : List Bool) (k : ℕ) → marks_of words ≡ set → k < 256 → has_byte set k ≡ word_has words k
has_byte-held words set k held below = rw (← held) (has_byte-marks_of words k below)

-- ---- sets with one member, and those that lack one byte

-- the only number below n that passes the test; None where there is none
abbrev pub IsOnly : Option ℕ → ℕ → (ℕ → Bool) → Type 0
IsOnly None n test = (k : ℕ) → k < n → test k ≡ false
IsOnly (Some b) n test = (b < n) × ((k : ℕ) → k < n → test k ≡ (k == b))

-- the members of a set with one member turned round
pub LacksOnly-not : (only : Option ℕ) (had has : ℕ → Bool) → IfSome only (λ b. (k : ℕ) → k < 256 → had k ≡ (k == b))
    → ((k : ℕ) → k < 256 → has k ≡ not (had k)) → LacksOnly only has
LacksOnly-not None had has is turned = tt
LacksOnly-not (Some b) had has is turned = λ k below. turned k below ∙ ap not (is k below)

-- the same of the set that the words stand for
pub lacking : (words : List ℕ) (set : List Bool) (lacks : Option ℕ) (end : ℕ) → marks_of words ≡ set → lacks ≡ Some end
    → LacksOnly lacks (word_has words) → (k : ℕ) → k < 256 → has_byte set k ≡ not (k == end)
lacking words set lacks end held is h k below = let only = rw is at h in has_byte-held words set k held below ∙ only k below

-- the longest front of such a set's members ends before that byte
pub run_to : (test : ℕ → Bool) (end : ℕ) (x : List ℕ) → ((k : ℕ) → k < 256 → test k ≡ not (k == end)) → ((k : ℕ) → Fits w8 (get_or x k 0))
    → (n : ℕ) → n ≤ length x
    → ((k : ℕ) → k < n → (get_or x k 0 == end) ≡ true → ⊥) → (n < length x → (get_or x n 0 == end) ≡ true) → n ≡ prefix_len test x
run_to test end x lacks fits n within before at =
    sym (prefix_len_is test x n 0 within (λ k below. lacks (get_or x k 0) (fits k).fits ∙ other (get_or x k 0 == end) (before k below))
    (λ below. lacks (get_or x n 0) (fits n).fits ∙ ap not (at below)))
  where
    other : (b : Bool) → (b ≡ true → ⊥) → not b ≡ true
    other true f = absurd (f refl)
    other false f = refl

-- tests that agree on the bytes have the same longest front
pub same_front : (p q : ℕ → Bool) → ((k : ℕ) → k < 256 → p k ≡ q k) → (x : List ℕ) → ((k : ℕ) → Fits w8 (get_or x k 0))
    → prefix_len p x ≡ prefix_len q x
same_front p q same [] fits = refl
same_front p q same (b ∷ x) fits = ap₂ (λ t n. cond t (1 + n) 0) (same b (fits 0).fits) (same_front p q same x (λ k. fits (suc k)))
