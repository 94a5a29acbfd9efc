-- A point and the letter of an exponent are no digits; and what goes on as another does.
use Rattle.std.proofs.Common.{◌≡◌, ◌⊎◌, ℕ, Bool, true, false, ◌||◌, List, refl, sym, ap, ◌∙◌, inl, inr, true≢false, Some, None}
use Rattle.std.specs.Prelude.{Option, ◌==◌}
use Rattle.std.proofs.lemmas.Bool.{eqb-true}
use Rattle.sf_float_read.specs.declared.item.reached.Radix.{Radix}
use Rattle.sf_float_read.specs.declared.item.reached.Radix.TheVariants.{Ten, Sixteen}
use Rattle.sf_float_read.specs.declared.item.reached.Reached.{Reached}
use Rattle.sf_float_read.specs.item.Sequences.{is_digit, opens_exponent}
use Rattle.sf_float_read.specs.item.Steps.{Goes}

point : (radix : Radix) → is_digit radix 46 ≡ false
point Ten = refl
point Sixteen = refl

pub point_apart : (radix : Radix) (b : ℕ) → is_digit radix b ≡ true → b ≡ 46 → ⊥
point_apart radix b d e = true≢false (sym d ∙ ap (is_digit radix) e ∙ point radix)

pub either : (a b : ℕ) (x : ℕ) → (x == a || x == b) ≡ true → (x ≡ a) ⊎ (x ≡ b)
either a b x h = go (x == a) (x == b) refl refl h
  where
    go : (p q : Bool) → (x == a) ≡ p → (x == b) ≡ q → (p || q) ≡ true → (x ≡ a) ⊎ (x ≡ b)
    go true q e f k = inl (eqb-true x a e)
    go false true e f k = inr (eqb-true x b f)
    go false false e f k = absurd (true≢false (sym k))

pub exponent_apart : (radix : Radix) (b : ℕ) → is_digit radix b ≡ true → opens_exponent radix b ≡ true → ⊥
exponent_apart Ten b d h =
    elim (either 101 69 b h) [
      | inl e ↦ true≢false (sym d ∙ ap (is_digit Ten) e)
      | inr e ↦ true≢false (sym d ∙ ap (is_digit Ten) e)
    ]
exponent_apart Sixteen b d h =
    elim (either 112 80 b h) [
      | inl e ↦ true≢false (sym d ∙ ap (is_digit Sixteen) e)
      | inr e ↦ true≢false (sym d ∙ ap (is_digit Sixteen) e)
    ]

pub goes_as : (P Q : List ℕ → Type 0) (r : Option Reached) → ((t : List ℕ) → (Q t → P t) × (P t → Q t)) → Goes P r → Goes Q r
goes_as P Q None same g = λ t q. g t ((same t).0 q)
goes_as P Q (Some r) same g = λ t. (λ q. (g t).0 ((same t).0 q), λ k. (same t).1 ((g t).1 k))
