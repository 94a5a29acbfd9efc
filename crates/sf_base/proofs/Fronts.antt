-- The longest front of a list that passes a test.
use Rattle.std.proofs.Common.{◌≡◌, ℕ, zero, suc, ◌+◌, ◌≤◌, Bool, true, false, cond, List, [], ◌∷◌, length, take, refl, arith}
use Rattle.std.specs.List.{AllByRecursion, prefix_len}
use Rattle.sf_base.specs.Bytes.{IsLongestFront}

front_within : (test : ℕ → Bool) (x : List ℕ) → prefix_len test x ≤ length x
front_within test [] = omega arith
front_within test (b ∷ x) = go (test b) (front_within test x)
  where
    go : (t : Bool) → prefix_len test x ≤ length x → cond t (1 + prefix_len test x) 0 ≤ suc (length x)
    go true h = omega arith
    go false h = omega arith

front_passes : (test : ℕ → Bool) (x : List ℕ) → AllByRecursion (λ b. test b ≡ true) (take (prefix_len test x) x)
front_passes test [] = tt
front_passes test (b ∷ x) = go (test b) refl (front_passes test x)
  where
    go : (t : Bool) → test b ≡ t → AllByRecursion (λ c. test c ≡ true) (take (prefix_len test x) x)
        → AllByRecursion (λ c. test c ≡ true) (take (cond t (1 + prefix_len test x) 0) (b ∷ x))
    go true e h = rw (one_more (prefix_len test x)) (e, h)
      where
        one_more : (n : ℕ) → 1 + n ≡ suc n
        one_more n = omega arith
    go false e h = tt

front_above : (test : ℕ → Bool) (x : List ℕ) (j : ℕ) → j ≤ length x → AllByRecursion (λ b. test b ≡ true) (take j x) → j ≤ prefix_len test x
front_above test [] j within all = within
front_above test (b ∷ x) zero within all = omega arith
front_above test (b ∷ x) (suc j) within all = go (test b) all.0 (front_above test x j (omega (arith, within)) all.1)
  where
    go : (t : Bool) → t ≡ true → j ≤ prefix_len test x → suc j ≤ cond t (1 + prefix_len test x) 0
    go true e h = omega arith
    go false e h = cc

pub longest_front : (test : ℕ → Bool) (x : List ℕ) → IsLongestFront test x (prefix_len test x)
longest_front test x = record {
  holds = (front_within test x, front_passes test x);
  above = λ j h. front_above test x j h.0 h.1;
}

pub longest_at : (test : ℕ → Bool) (x : List ℕ) (k : ℕ) → k ≡ prefix_len test x → IsLongestFront test x k
longest_at test x k e = rw e (longest_front test x)
