-- The first bytes of a matching sequence tell its form.
use Rattle.std.proofs.Common.{◌≡◌, ◌⊎◌, ℕ, ◌≤◌, ◌<◌, true, ◌||◌, List, [], ◌∷◌, refl, sym, ap, ◌∙◌, subst, inl, inr, arith, lt-ltb, length}
use Rattle.std.proofs.Common.{drop, slice_index}
use Rattle.std.specs.Prelude.{◌==◌}
use Rattle.std.specs.Char.{is_ascii_digit, to_ascii_lowercase}
use Rattle.sf_float_read.specs.declared.item.reached.Radix.TheVariants.{Ten, Sixteen}
use Rattle.sf_float_read.specs.item.Sequences.{is_digit, IsWhole, IsNumber, IsUnsigned, IsFloat}
use Rattle.sf_float_read.specs.item.Parts.{IsInfinity, IsNan}
use Rattle.sf_float_read.proofs.ItemLemmas.Apart.{either}
use Rattle.sf_float_read.proofs.ItemLemmas.Joined.{infinity_of, nan_of}
use Rattle.sf_float_read.proofs.ItemLemmas.Parses.{plus_opens_none, minus_opens_none}

pub lower : (b : ℕ) → b < 65 → to_ascii_lowercase b ≡ b
lower b h = rw (lt-ltb b 65 h) refl

pub digit_lower : (b : ℕ) → is_ascii_digit b ≡ true → b < 58
digit_lower b h = omega (arith, in_range b h)
  where
    in_range : (b : ℕ) → is_ascii_digit b ≡ true → b < 58
    in_range b h = grind arith

-- ---- by the first byte

pub number_first : (b : ℕ) (t : List ℕ) → IsNumber Ten (b ∷ t) → b < 58
number_first b t (inl d) = digit_lower b d.0
number_first b t (inr p) = omega (arith, p.0)

no_letter : (b w : ℕ) → b < 65 → to_ascii_lowercase b ≡ w → 65 ≤ w → ⊥
no_letter b w h e l = absurd (omega (arith, lower b h, e))

pub infinity_first : (b : ℕ) (t : List ℕ) → IsUnsigned (b ∷ t) → to_ascii_lowercase b ≡ 105 → IsInfinity (b ∷ t)
infinity_first b t (inl z) e = absurd (no_letter b 105 (omega (arith, z.0)) e (omega arith))
infinity_first b t (inr (inl n)) e = absurd (no_letter b 105 (omega (arith, number_first b t n)) e (omega arith))
infinity_first b t (inr (inr (inl i))) e = infinity_of (105 ∷ 110 ∷ 102 ∷ []) (b ∷ t) i
infinity_first b t (inr (inr (inr n))) e = absurd (omega (arith, n.0, e))

pub nan_first : (b : ℕ) (t : List ℕ) → IsUnsigned (b ∷ t) → to_ascii_lowercase b ≡ 110 → IsNan (b ∷ t)
nan_first b t (inl z) e = absurd (no_letter b 110 (omega (arith, z.0)) e (omega arith))
nan_first b t (inr (inl n)) e = absurd (no_letter b 110 (omega (arith, number_first b t n)) e (omega arith))
nan_first b t (inr (inr (inl i))) e = absurd (omega (arith, i.0, e))
nan_first b t (inr (inr (inr n))) e = nan_of (b ∷ t) n

-- ---- by the second

pub no_number : (c : ℕ) (u : List ℕ) → to_ascii_lowercase c ≡ 120 → IsWhole Ten (c ∷ u) → ⊥
no_number c u e (inl d) = no_letter c 120 (omega (arith, digit_lower c d.0)) e (omega arith)
no_number c u e (inr (inl p)) = no_letter c 120 (omega (arith, p.0)) e (omega arith)
no_number c u e (inr (inr x)) =
    elim (either 101 69 c x.0) [
      | inl k ↦ absurd (omega (arith, sym (subst (λ b. to_ascii_lowercase b ≡ 120) k e)))
      | inr k ↦ absurd (omega (arith, sym (subst (λ b. to_ascii_lowercase b ≡ 120) k e)))
    ]

is_prefix : (b : ℕ) (c : ℕ) (u : List ℕ) → to_ascii_lowercase b ≡ 48 → to_ascii_lowercase c ≡ 120 → IsUnsigned (b ∷ c ∷ u)
    → (b ≡ 48) × ((c ≡ 120) ⊎ (c ≡ 88)) × IsNumber Sixteen u
is_prefix b c u e f (inl (z, inl w)) = absurd (no_number c u f w)
is_prefix b c u e f (inl (z, inr x)) = (z, either 120 88 c x.0, x.1)
is_prefix b c u e f (inr (inl (inl d))) = absurd (no_number c u f d.1)
is_prefix b c u e f (inr (inl (inr p))) = absurd (omega (arith, lower b (omega (arith, p.0)), e, p.0))
is_prefix b c u e f (inr (inr (inl i))) = absurd (omega (arith, i.0, e))
is_prefix b c u e f (inr (inr (inr n))) = absurd (omega (arith, n.0, e))

pub prefix_first : (b : ℕ) (c : ℕ) (u : List ℕ) → to_ascii_lowercase b ≡ 48 → to_ascii_lowercase c ≡ 120 → IsUnsigned (b ∷ c ∷ u)
    → (x : ℕ) × (numeral : List ℕ) × ((x ≡ 120) ⊎ (x ≡ 88)) × (b ∷ c ∷ u ≡ 48 ∷ x ∷ numeral) × IsNumber Sixteen numeral
prefix_first b c u e f h = let r = is_prefix b c u e f h in (c, u, r.1, ap (λ k. k ∷ c ∷ u) r.0, r.2)

marked : (c : ℕ) → (c == 120 || c == 88) ≡ true → to_ascii_lowercase c ≡ 120
marked c h = elim (either 120 88 c h) [
  | inl k ↦ subst (λ b. to_ascii_lowercase b ≡ 120) (sym k) refl
  | inr k ↦ subst
      (λ b. to_ascii_lowercase b ≡ 120) (sym k) refl
]

pub decimal_alone : (b : ℕ) → IsUnsigned (b ∷ []) → (to_ascii_lowercase b ≡ 105 → ⊥) → (to_ascii_lowercase b ≡ 110 → ⊥)
    → IsNumber Ten (b ∷ [])
decimal_alone b (inl z) i n = inl (ap (is_digit Ten) z.0, tt)
decimal_alone b (inr (inl k)) i n = k
decimal_alone b (inr (inr (inl k))) i n = absurd (i k.0)
decimal_alone b (inr (inr (inr k))) i n = absurd (n k.0)

pub decimal_first : (b c : ℕ) (u : List ℕ) → IsUnsigned (b ∷ c ∷ u) → (to_ascii_lowercase b ≡ 105 → ⊥) → (to_ascii_lowercase b ≡ 110 → ⊥)
    → (to_ascii_lowercase b ≡ 48 → to_ascii_lowercase c ≡ 120 → ⊥)
    → IsNumber Ten (b ∷ c ∷ u)
decimal_first b c u (inl (z, inl w)) i n x = inl (ap (is_digit Ten) z, w)
decimal_first b c u (inl (z, inr k)) i n x = absurd (x (lower b (omega (arith, z)) ∙ z) (marked c k.0))
decimal_first b c u (inr (inl k)) i n x = k
decimal_first b c u (inr (inr (inl k))) i n x = absurd (i k.0)
decimal_first b c u (inr (inr (inr k))) i n x = absurd (n k.0)

-- ---- of a list

pub infinity_at : (t : List ℕ) → IsUnsigned t → to_ascii_lowercase (slice_index t 0) ≡ 105 → IsInfinity t
infinity_at [] h e = absurd h
infinity_at (b ∷ t) h e = infinity_first b t h e

pub nan_at : (t : List ℕ) → IsUnsigned t → to_ascii_lowercase (slice_index t 0) ≡ 110 → IsNan t
nan_at [] h e = absurd h
nan_at (b ∷ t) h e = nan_first b t h e

pub prefix_at : (t : List ℕ) → 1 < length t → IsUnsigned t → to_ascii_lowercase (slice_index t 0) ≡ 48
    → to_ascii_lowercase (slice_index t 1) ≡ 120
    → (x : ℕ) × (numeral : List ℕ) × ((x ≡ 120) ⊎ (x ≡ 88)) × (t ≡ 48 ∷ x ∷ numeral) × IsNumber Sixteen numeral
prefix_at [] l h e f = absurd h
prefix_at (b ∷ []) l h e f = absurd (omega arith)
prefix_at (b ∷ c ∷ u) l h e f = prefix_first b c u e f h

pub minus_at : (t : List ℕ) → IsFloat t → slice_index t 0 ≡ 45 → (t ≡ 45 ∷ drop 1 t) × IsUnsigned (drop 1 t)
minus_at [] h e = absurd h
minus_at (b ∷ t) (inl s) e = (ap (λ k. k ∷ t) e, s.1)
minus_at (b ∷ t) (inr u) e = absurd (minus_opens_none t (subst (λ k. IsUnsigned (k ∷ t)) e u))

pub plus_at : (t : List ℕ) → IsFloat t → slice_index t 0 ≡ 43 → (t ≡ 43 ∷ drop 1 t) × IsUnsigned (drop 1 t)
plus_at [] h e = absurd h
plus_at (b ∷ t) (inl s) e = (ap (λ k. k ∷ t) e, s.1)
plus_at (b ∷ t) (inr u) e = absurd (plus_opens_none t (subst (λ k. IsUnsigned (k ∷ t)) e u))
