-- Sets that lack just one byte.
use Rattle.std.specs.Prelude.{◌≡◌, ◌+◌, ◌<◌, ◌≤◌, ◌==◌, ℕ, zero, suc, Bool, true, false, not, Option, Some, None, IsSome, List, length}
use Rattle.std.specs.Prelude.{if◌then◌else◌, refl}
use Rattle.std.proofs.Common.{arith, ap, sym, ◌∙◌, inl, inr, ◌⊎◌}
use Rattle.std.proofs.lemmas.Bool.{cases_eq, cases_lt, ne_eqb, eq-eqb, eqb-true}
use Rattle.std.proofs.lemmas.List.{get_or_past}
use Rattle.std.proofs.lemmas.Option.{none-some}
use Rattle.std.proofs.lemmas.List.Sums.{prefix_len_is, prefix_len_passes, prefix_len_stops}
use Rattle.std.specs.List.{prefix_len}
use Rattle.sf_base.specs.Sets.{has_byte, count_below, lone_lack}

-- ---- how many numbers pass a test, by those that don't

count_most : (test : ℕ → Bool) (n : ℕ) → count_below test n ≤ n
unfolding count_below
count_most test zero = omega arith
count_most test (suc n) = by (test n) (count_most test n)
  where
    by : (t : Bool) → count_below test n ≤ n → count_below test n + (if t then 1 else 0) ≤ suc n
    by true h = omega (arith, h)
    by false h = omega (arith, h)

count_full : (test : ℕ → Bool) (n : ℕ) → ((k : ℕ) → k < n → test k ≡ true) → count_below test n ≡ n
unfolding count_below
count_full test zero all = refl
count_full test (suc n) all =
    let before = count_full test n (λ k below. all k (omega (arith, below))) in
    rw (all n (omega arith)) (omega (arith, before))

-- where one doesn't
count_lacks : (test : ℕ → Bool) (n k : ℕ) → k < n → test k ≡ false → count_below test n + 1 ≤ n
unfolding count_below
count_lacks test zero k below lacks = absurd (omega (arith, below))
count_lacks test (suc n) k below lacks = elim (cases_eq k n) [
  | inl last ↦
      (let e : test n ≡ false = ap test (sym last) ∙ lacks in
      rw e (omega (arith, count_most test n)))
  | inr other ↦ by (test n) (count_lacks test n k (omega (arith, below, other)) lacks)
]
  where
    by : (t : Bool) → count_below test n + 1 ≤ n → (count_below test n + (if t then 1 else 0)) + 1 ≤ suc n
    by true h = omega (arith, h)
    by false h = omega (arith, h)

-- where two don't
count_lacks_two : (test : ℕ → Bool) (n j k : ℕ) → j < k → k < n → test j ≡ false → test k ≡ false → count_below test n + 2 ≤ n
unfolding count_below
count_lacks_two test zero j k before below first second = absurd (omega (arith, below))
count_lacks_two test (suc n) j k before below first second = elim (cases_eq k n) [
  | inl last ↦
      (let e : test n ≡ false = ap test (sym last) ∙ second in
      let fewer = count_lacks test n j (omega (arith, before, last)) first in
      rw e (omega (arith, fewer)))
  | inr other ↦ by (test n) (count_lacks_two test n j k before (omega (arith, below, other)) first second)
]
  where
    by : (t : Bool) → count_below test n + 2 ≤ n → (count_below test n + (if t then 1 else 0)) + 2 ≤ suc n
    by true h = omega (arith, h)
    by false h = omega (arith, h)

-- where just one doesn't
count_lacking : (test : ℕ → Bool) (n b : ℕ) → b < n → ((k : ℕ) → k < n → test k ≡ not (k == b)) → count_below test n + 1 ≡ n
unfolding count_below
count_lacking test zero b below is = absurd (omega (arith, below))
count_lacking test (suc n) b below is = elim (cases_eq n b) [
  | inl last ↦
      (let e : test n ≡ false = is n (omega arith) ∙ ap not (eq-eqb n b last) in
      let others : (k : ℕ) → k < n → test k ≡ true =
      λ k under. is k (omega (arith, under)) ∙ ap not (ne_eqb k b (λ same. omega (arith, same, last, under))) in
      rw e (omega (arith, count_full test n others)))
  | inr other ↦
      (let e : test n ≡ true = is n (omega arith) ∙ ap not (ne_eqb n b other) in
      let fewer = count_lacking test n b (omega (arith, below, other)) (λ k under. is k (omega (arith, under))) in
      rw e (omega (arith, fewer)))
]

-- ---- the first byte that is no member

abbrev first_lack : List Bool → ℕ
first_lack set = prefix_len (λ member. member) set

member_before : (set : List Bool) (k : ℕ) → k < first_lack set → has_byte set k ≡ true
member_before set k below = prefix_len_passes (λ member. member) set k false below

no_member_there : (set : List Bool) → has_byte set (first_lack set) ≡ false
no_member_there set = elim (cases_lt (first_lack set) (length set)) [
  | inl inside ↦ prefix_len_stops (λ member. member) set false inside
  | inr past ↦ get_or_past set (first_lack set) false past
]

-- a set with 255 members lacks the first byte that is none, and no other
lacks_first : (set : List Bool) → count_below (has_byte set) 256 ≡ 255 → (k : ℕ) → k < 256 → has_byte set k ≡ not (k == first_lack set)
lacks_first set count k below = elim (cases_eq k (first_lack set)) [
  | inl same ↦ ap (has_byte set) same ∙ no_member_there set ∙ sym (ap not (eq-eqb k (first_lack set) same))
  | inr other ↦ member (has_byte set k) refl other ∙ sym (ap not (ne_eqb k (first_lack set) other))
]
  where
    two : (j i : ℕ) → j < i → i < 256 → has_byte set j ≡ false → has_byte set i ≡ false → ⊥
    two j i before under first second =
        let few = count_lacks_two (has_byte set) 256 j i before under first second in omega (arith, few, count)

    member : (m : Bool) → has_byte set k ≡ m → (k ≡ first_lack set → ⊥) → m ≡ true
    member true is other = refl
    member false is other = elim (cases_lt k (first_lack set)) [
      | inl before ↦ absurd (no (sym is ∙ member_before set k before))
      | inr behind ↦ absurd (two (first_lack set) k (omega (arith, behind, other)) below (no_member_there set) is)
    ]
      where
        no : false ≡ true → ⊥
        no e = cc

-- ---- what `lone_lack` answers

-- where it gives a byte, that alone is no member
pub lone_lack_lacks : (set : List Bool) (b : ℕ) → lone_lack set ≡ Some b → (k : ℕ) → k < 256 → has_byte set k ≡ not (k == b)
unfolding lone_lack
lone_lack_lacks set b is k below = by (count_below (has_byte set) 256 == 255) refl is
  where
    by : (t : Bool) → (count_below (has_byte set) 256 == 255) ≡ t → (if t then Some (first_lack set) else None) ≡ Some b
        → has_byte set k ≡ not (k == b)
    by true e found =
        let same : first_lack set ≡ b = cc in
        lacks_first set (eqb-true (count_below (has_byte set) 256) 255 e) k below ∙ ap (λ n. not (k == n)) same
    by false e found = absurd (none-some b found)

-- what a walk over the bytes below n has found
abbrev pub LacksSoFar : Option ℕ → ℕ → (ℕ → Bool) → Type 0
LacksSoFar None n test = (k : ℕ) → k < n → test k ≡ true
LacksSoFar (Some b) n test = (b < n) × ((k : ℕ) → k < n → test k ≡ not (k == b))

-- over all bytes
pub lone_lack_is : (set : List Bool) (found : Option ℕ) → LacksSoFar found 256 (has_byte set) → found ≡ lone_lack set
unfolding lone_lack
lone_lack_is set None all = rw (count_full (has_byte set) 256 all) refl
lone_lack_is set (Some b) so =
    let count : count_below (has_byte set) 256 ≡ 255 = omega (arith, count_lacking (has_byte set) 256 b so.0 so.1) in
    let first : first_lack set ≡ b = prefix_len_is (λ member. member) set b false (within (cases_lt (length set) b)) before (λ below. at) in
    rw (count, first) refl
  where
    at : has_byte set b ≡ false
    at = so.1 b so.0 ∙ ap not (eq-eqb b b refl)

    before : (k : ℕ) → k < b → has_byte set k ≡ true
    before k below = so.1 k (omega (arith, below, so.0)) ∙ ap not (ne_eqb k b (λ same. omega (arith, same, below)))

    within : (length set < b) ⊎ (b ≤ length set) → b ≤ length set
    within (inl short) = absurd (no (sym (before (length set) short) ∙ get_or_past set (length set) false (omega arith)))
      where
        no : true ≡ false → ⊥
        no e = cc
    within (inr long) = long

-- where a second byte is none
pub lone_lack_of_two : (set : List Bool) (found : Option ℕ) (k : ℕ) → IsSome found → LacksSoFar found k (has_byte set) → k < 256
    → has_byte set k ≡ false → None ≡ lone_lack set
unfolding lone_lack
lone_lack_of_two set None k some so below second = absurd cc
lone_lack_of_two set (Some b) k some so below second =
    let first : has_byte set b ≡ false = so.1 b so.0 ∙ ap not (eq-eqb b b refl) in
    let few = count_lacks_two (has_byte set) 256 b k so.0 below first second in
    rw (ne_eqb (count_below (has_byte set) 256) 255 (λ e. omega (arith, e, few))) refl
