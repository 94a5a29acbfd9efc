-- Runs of a front, by runs of what is after it too.
use Rattle.std.proofs.Common.{◌≡◌, ◌∙◌, ℕ, zero, suc, ◌+◌, ◌≤◌, Bool, true, false, cond, List, [], ◌∷◌, length, take, sym, ap, arith}
use Rattle.std.specs.Prelude.{min}
use Rattle.std.proofs.lemmas.List.{take-take}
use Rattle.std.specs.List.{prefix_len}

module _ {A : Type 0} (p : A → Bool) where
  more : (v : Bool) (n a b : ℕ) → a ≡ min n b → cond v (1 + a) 0 ≡ min (suc n) (cond v (1 + b) 0)
  more true n a b is = omega (arith, is)
  more false n a b is = omega arith

  -- the run of a front is that of the whole, or all of it
  prefix_take : (n : ℕ) (xs : List A) → prefix_len p (take n xs) ≡ min n (prefix_len p xs)
  prefix_take zero xs = omega arith
  prefix_take (suc n) [] = omega arith
  prefix_take (suc n) (x ∷ xs) = more (p x) n (prefix_len p (take n xs)) (prefix_len p xs) (prefix_take n xs)

  -- so it is told by the run of a longer front
  pub run_by_longer : (front longer piece : List A) → front ≡ take (length front) piece → longer ≡ take (length longer) piece
      → length front ≤ length longer
      → prefix_len p front ≡ min (length front) (prefix_len p longer)
  run_by_longer front longer piece is long le =
      ap (prefix_len p) (is ∙ sym (take-take (length front) (length longer) piece le) ∙ ap (take (length front)) (sym long))
      ∙ prefix_take (length front) longer
