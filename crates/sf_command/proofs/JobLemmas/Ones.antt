-- A list of one element, or of two.
use Rattle.std.proofs.Common.{◌≡◌, ◌∙◌, ◌<◌, ◌≤◌, ℕ, List, [], ◌∷◌, length, map, get_or, ap, ap₂, sym, arith}

-- a list of one element, as it is shown
pub one_shown : {A : Type 0} (v : A → List ℕ) (xs : List A) (x : A) (shown : List ℕ) → length xs ≡ 1 → x ≡ get_or xs 0 x → shown ≡ v x
    → map v xs ≡ shown ∷ []
one_shown v [] x shown one is same = absurd (omega arith)
one_shown v (y ∷ []) x shown one is same = ap (λ (t : List ℕ). t ∷ []) (sym (same ∙ ap v is))
one_shown v (y ∷ z ∷ more) x shown one is same = absurd (omega arith)

-- a list of two, as it is shown
pub two_shown : {A : Type 0} (v : A → List ℕ) (xs : List A) (x y : A) (a b : List ℕ) → 2 ≤ length xs → length xs < 3
    → x ≡ get_or xs 0 x → y ≡ get_or xs 1 y → a ≡ v x → b ≡ v y → map v xs ≡ a ∷ b ∷ []
two_shown v [] x y a b least most first second a_is b_is = absurd (omega (arith, least))
two_shown v (p ∷ []) x y a b least most first second a_is b_is = absurd (omega (arith, least))
two_shown v (p ∷ q ∷ r ∷ more) x y a b least most first second a_is b_is = absurd (omega (arith, most))
two_shown v (p ∷ q ∷ []) x y a b least most first second a_is b_is =
    ap₂ (λ (s t : List ℕ). s ∷ t ∷ []) (sym (a_is ∙ ap v first)) (sym (b_is ∙ ap v second))
