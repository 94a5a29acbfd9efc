-- Fronts of lists, and what follows them.
use Rattle.std.proofs.Common.{◌≡◌, ℕ, zero, suc, ◌<◌, ◌≤◌, get_or, take, drop, Bool, true, false, List, [], ◌∷◌, ◌++◌, length, refl, arith}
use Rattle.std.specs.List.{AllByRecursion}
use Rattle.sf_format.specs.Lists.{front, behind}

-- the list is empty, or its first byte fails the test
abbrev pub Stops : (ℕ → Bool) → List ℕ → Type 0
Stops test [] = Unit {0}
Stops test (b ∷ x) = test b ≡ false

abbrev pub AllPass : (ℕ → Bool) → List ℕ → Type 0
AllPass test x = AllByRecursion (λ b. test b ≡ true) x

pub front_behind : (test : ℕ → Bool) (x : List ℕ) → front test x ++ behind test x ≡ x
front_behind test [] = refl
front_behind test (b ∷ x) = grind (arith, front_behind test x)

pub front_passes : (test : ℕ → Bool) (x : List ℕ) → AllPass test (front test x)
front_passes test [] = tt
front_passes test (b ∷ x) = grind (arith, front_passes test x)

pub behind_stops : (test : ℕ → Bool) (x : List ℕ) → Stops test (behind test x)
behind_stops test [] = tt
behind_stops test (b ∷ x) = grind (arith, behind_stops test x)

pub front_of : (test : ℕ → Bool) (x y : List ℕ) → AllPass test x → Stops test y → front test (x ++ y) ≡ x
front_of test [] [] passes stops = refl
front_of test [] (b ∷ y) passes stops = rw stops
front_of test (b ∷ x) y passes stops = rw (passes.0, front_of test x y passes.1 stops)

pub behind_of : (test : ℕ → Bool) (x y : List ℕ) → AllPass test x → Stops test y → behind test (x ++ y) ≡ y
behind_of test [] [] passes stops = refl
behind_of test [] (b ∷ y) passes stops = rw stops
behind_of test (b ∷ x) y passes stops = rw (passes.0, behind_of test x y passes.1 stops)

-- ---- by place

-- the bytes before i pass, and the one at i doesn't
pub front_at : (test : ℕ → Bool) (x : List ℕ) (i : ℕ) → i < length x → AllPass test (take i x) → test (get_or x i 0) ≡ false
    → (front test x ≡ take i x) × (behind test x ≡ drop i x)
front_at test [] i below passes fails = absurd (omega (arith, below))
front_at test (b ∷ x) zero below passes fails = rw fails (refl, refl)
front_at test (b ∷ x) (suc i) below passes fails = grind (arith, front_at test x i)

-- all bytes pass
pub front_all : (test : ℕ → Bool) (x : List ℕ) (i : ℕ) → length x ≤ i → AllPass test (take i x) → (front test x ≡ x) × (behind test x ≡ [])
front_all test [] i whole passes = (refl, refl)
front_all test (b ∷ x) zero whole passes = absurd (omega (arith, whole))
front_all test (b ∷ x) (suc i) whole passes = grind (arith, front_all test x i)
