-- The bytes of a run all pass its test, and the next does not.
use Rattle.std.proofs.Common.{◌≡◌, ℕ, ◌+◌, ◌<◌, ◌≤◌, Bool, true, false, cond, List, [], ◌∷◌, ◌++◌, length, take, suc, refl, arith}
use Rattle.std.proofs.lemmas.List.Sums.{prefix_len-le-length}
use Rattle.std.proofs.lemmas.List.Folds.{list_all-append}
use Rattle.std.specs.List.{list_all, prefix_len}

one_more : (n : ℕ) → 1 + n ≡ suc n
one_more n = omega arith

two_more : (n : ℕ) → (1 + n) + 1 ≡ suc (n + 1)
two_more n = omega arith

all_pass : (p : ℕ → Bool) (x : List ℕ) → list_all p (take (prefix_len p x) x) ≡ true
all_pass p [] = refl
all_pass p (b ∷ x) = go (p b) refl (all_pass p x)
  where
    go : (t : Bool) → p b ≡ t → list_all p (take (prefix_len p x) x) ≡ true
        → list_all p (take (cond t (1 + prefix_len p x) 0) (b ∷ x)) ≡ true
    go true e h = rw (one_more (prefix_len p x), e) h
    go false e h = refl

next_fails : (p : ℕ → Bool) (x : List ℕ) → prefix_len p x < length x → list_all p (take (prefix_len p x + 1) x) ≡ false
next_fails p [] below = absurd (omega (arith, below))
next_fails p (b ∷ x) below = go (p b) refl below (next_fails p x)
  where
    go : (t : Bool) → p b ≡ t → cond t (1 + prefix_len p x) 0 < suc (length x)
        → (prefix_len p x < length x → list_all p (take (prefix_len p x + 1) x) ≡ false)
        → list_all p (take (cond t (1 + prefix_len p x) 0 + 1) (b ∷ x)) ≡ false
    go true e short h = rw (two_more (prefix_len p x), e) (h (omega (arith, short)))
    go false e short h = rw e refl

module _ (p : ℕ → Bool) (piece : List ℕ) (n : ℕ) (is : n ≡ prefix_len p piece) where
  pub run_within : n ≤ length piece
  run_within = rw is (prefix_len-le-length p piece)

  -- after bytes that pass
  pub run_passes : (f : List ℕ) → list_all p f ≡ true → list_all p (f ++ take n piece) ≡ true
  run_passes f h = rw (is, list_all-append p f (take (prefix_len p piece) piece), h) (all_pass p piece)

  pub run_stops : (f : List ℕ) → list_all p f ≡ true → n < length piece → list_all p (f ++ take (n + 1) piece) ≡ false
  run_stops f h below = let short = rw is at below in rw (is, list_all-append p f (take (prefix_len p piece + 1) piece), h)
      (next_fails p piece short)
