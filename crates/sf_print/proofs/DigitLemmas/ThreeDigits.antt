-- The table of three digits.
use Rattle.std.proofs.Common.{◌≡◌, ℕ, zero, suc, ◌+◌, ◌<◌, Bool, true, false, ◌&&◌, T, eqb, List, [], ◌∷◌, ◌++◌, length, get_or, refl, ap}
use Rattle.std.proofs.Common.{◌∙◌, arith, eqb→eq}
use lib.Ieee.Fits.{and_l, and_r}
use Rattle.sf_print.specs.digits.Decimals.{three_digits}
use Rattle.sf_print.specs.declared.digits.triples.TheConstants.{TRIPLES}

abbrev same : List ℕ → List ℕ → Bool
same [] [] = true
same [] (y ∷ ys) = false
same (x ∷ xs) [] = false
same (x ∷ xs) (y ∷ ys) = eqb x y && same xs ys

same_is : (xs ys : List ℕ) → T (same xs ys) → xs ≡ ys
same_is [] [] t = refl
same_is [] (y ∷ ys) t = absurd t
same_is (x ∷ xs) [] t = absurd t
same_is (x ∷ xs) (y ∷ ys) t = (λ i. eqb→eq x y (and_l _ (same xs ys) t) i ∷ same_is xs ys (and_r (eqb x y) (same xs ys) t) i)

-- those of the numbers from n on
abbrev are_triples : ℕ → List (List ℕ) → Bool
are_triples n [] = true
are_triples n (x ∷ xs) = same x (three_digits n ++ 48 ∷ []) && are_triples (suc n) xs

at : (n k : ℕ) (xs : List (List ℕ)) → T (are_triples n xs) → k < length xs → get_or xs k [] ≡ three_digits (n + k) ++ 48 ∷ []
at n k [] t h = absurd (omega (arith, h))
at n zero (x ∷ xs) t h =
    let same_place : n ≡ n + 0 = omega arith in
    same_is x (three_digits n ++ 48 ∷ []) (and_l _ (are_triples (suc n) xs) t) ∙ ap (λ (m : ℕ). three_digits m ++ 48 ∷ []) same_place
at n (suc k) (x ∷ xs) t h =
    let same_place : suc n + k ≡ n + suc k = omega arith in
    at (suc n) k xs (and_r (same x (three_digits n ++ 48 ∷ [])) (are_triples (suc n) xs) t) (omega (arith, h))
    ∙ ap (λ (m : ℕ). three_digits m ++ 48 ∷ []) same_place

pub TRIPLES_at : (n : ℕ) → n < 1000 → get_or TRIPLES n [] ≡ three_digits n ++ 48 ∷ []
TRIPLES_at n h =
    let from_none : 0 + n ≡ n = omega arith in
    at 0 n TRIPLES tt h ∙ ap (λ (m : ℕ). three_digits m ++ 48 ∷ []) from_none
