-- The table of what each byte is between quotes.
use Rattle.std.proofs.Common.{◌≡◌, ℕ, zero, suc, ◌-◌, ◌<◌, ◌≤◌, Bool, true, false, ◌&&◌, T, eqb, nat_le, List, [], ◌∷◌, take, get_or, refl}
use Rattle.std.proofs.Common.{arith, inl, inr, eq-zero-or-pos, eqb→eq}
use Rattle.std.proofs.Math.Dec.{leb→le}
use lib.Ieee.Fits.{and_l, and_r}
use Rattle.sf_forms.specs.Quotes.{escaped}
use Rattle.sf_forms.specs.declared.escape.TheConstants.{QUOTED, QUOTED_LEN}

abbrev same : List ℕ → List ℕ → Bool
same [] [] = true
same [] (y ∷ ys) = false
same (x ∷ xs) [] = false
same (x ∷ xs) (y ∷ ys) = eqb x y && same xs ys

same_is : (xs ys : List ℕ) → T (same xs ys) → xs ≡ ys
same_is [] [] t = refl
same_is [] (y ∷ ys) t = absurd t
same_is (x ∷ xs) [] t = absurd t
same_is (x ∷ xs) (y ∷ ys) t = (λ i. eqb→eq x y (and_l _ (same xs ys) t) i ∷ same_is xs ys (and_r (eqb x y) (same xs ys) t) i)

abbrev is_quoted : ℕ → Bool
is_quoted b = same (take (get_or QUOTED_LEN b 0) (get_or QUOTED b [])) (escaped b) && nat_le (get_or QUOTED_LEN b 0) 4

abbrev are_quoted : ℕ → Bool
are_quoted zero = true
are_quoted (suc b) = is_quoted b && are_quoted b

below : (n b : ℕ) → T (are_quoted n) → b < n → T (is_quoted b)
below zero b t h = absurd (omega arith)
below (suc n) b t h =
    elim (eq-zero-or-pos (n - b)) [
      | inl z ↦ let e : b ≡ n = omega arith in rw e (and_l _ (are_quoted n) t)
      | inr g ↦ below n b (and_r _ (are_quoted n) t) (omega arith)
    ]

pub quoted_text : (b : ℕ) → b < 256 → take (get_or QUOTED_LEN b 0) (get_or QUOTED b []) ≡ escaped b
quoted_text b h = same_is _ _ (and_l _ (nat_le (get_or QUOTED_LEN b 0) 4) (below 256 b tt h))

pub quoted_most : (b : ℕ) → b < 256 → get_or QUOTED_LEN b 0 ≤ 4
quoted_most b h = leb→le _ 4 (and_r (same (take (get_or QUOTED_LEN b 0) (get_or QUOTED b [])) (escaped b)) _ (below 256 b tt h))
