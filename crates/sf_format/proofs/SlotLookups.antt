-- Which slots are found among those from 1 to their count, each once.
use Rattle.std.proofs.Common.{◌≡◌, ◌≢◌, ℕ, ◌+◌, ◌≤◌, ◌<◌, nat_eq, List, [], ◌∷◌, length, refl, arith, Bool, true, false, map, is_some}
use Rattle.std.proofs.lemmas.Bool.Decides.{nat_tests}
use Rattle.std.specs.List.{AllByRecursion, IsDistinct, list_any}
use Rattle.std.proofs.lemmas.Map.Steps.{length-le_from_distinct_below}
use Rattle.sf_format.proofs.Rules.{all_map}
use Rattle.sf_format.specs.Slots.{AreDistinct, Slotted, kind_with, AreSlots}
use Rattle.std.proofs.lemmas.List.{length-map}
use Rattle.std.specs.Prelude.{◌↔◌, IsSome}

abbrev pub AreWithin : ℕ → List ℕ → Type 0
AreWithin n xs = AllByRecursion (λ x. (1 ≤ x) × (x ≤ n)) xs

distinct_of : (xs : List ℕ) → AreDistinct xs → IsDistinct nat_eq xs
unfolding IsDistinct
distinct_of [] h = tt
distinct_of (x ∷ xs) h = (all_map (λ y. y ≢ x) (λ y. nat_eq x y ≡ false) (λ y other. grind (arith, nat_tests)) xs h.0, distinct_of xs h.1)

within_of : (n q : ℕ) (xs : List ℕ) → AreWithin n xs → list_any (nat_eq q) xs ≡ true → q ≤ n
within_of n q [] within e = absurd (cc)
within_of n q (x ∷ xs) within e = grind (arith, nat_tests, within_of n q xs within.1)

-- with 0 they are numbers below n + 1
pub pigeonhole : (n : ℕ) (xs : List ℕ) → AreDistinct xs → AreWithin n xs → length xs ≤ n
pigeonhole n xs distinct within =
    let apart = all_map (λ x. (1 ≤ x) × (x ≤ n)) (λ x. x ≢ 0) (λ x h e. absurd (omega (arith, h.0, e))) xs within in
    let below : (q : ℕ) → list_any (nat_eq q) (0 ∷ xs) ≡ true → q < n + 1 =
    λ q e. (let h = within_of n q xs within in grind (arith, nat_tests)) in
    omega (arith, length-le_from_distinct_below (0 ∷ xs) (n + 1) (distinct_of (0 ∷ xs) (apart, distinct)) below)

-- the slots of what is listed
abbrev pub numbers : List Slotted → List ℕ
numbers es = map (λ d. d.0) es

-- what is not found is none of the slots
not_found : (slot : ℕ) (es : List Slotted) → is_some (kind_with slot es) ≡ false → AllByRecursion (λ m. m ≢ slot) (numbers es)
not_found slot [] e = tt
not_found slot (d ∷ es) e = grind (arith, nat_tests, not_found slot es)

-- what is found is one of them
is_found : (n slot : ℕ) (es : List Slotted) → AllByRecursion (λ m. (1 ≤ m) × (m ≤ n)) (numbers es) → IsSome (kind_with slot es)
    → (1 ≤ slot) × (slot ≤ n)
is_found n slot [] all some = absurd (cc)
is_found n slot (d ∷ es) all some = grind (arith, nat_tests, is_found n slot es all.1)

-- the slots with a kind are those from 1 to their count
pub kinds_are : (slot : ℕ) (es : List Slotted) → AreSlots es → IsSome (kind_with slot es) ↔ ((1 ≤ slot) × (slot ≤ length es))
kinds_are slot es slots = (
  λ some. is_found (length es) slot es slots.each some,
  λ h. found h (is_some (kind_with slot es)) refl,
)
  where
    found : (1 ≤ slot) × (slot ≤ length es) → (v : Bool) → is_some (kind_with slot es) ≡ v → v ≡ true
    found h true e = refl
    found h false e = absurd (omega (
      arith,
      length-map es (λ (d : Slotted). d.0),
      pigeonhole (length es) (slot ∷ numbers es) (not_found slot es e, slots.distinct) (h, slots.each),
    ))
