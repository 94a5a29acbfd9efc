-- The decimal matching sequences are those of std's `parse`.
use Rattle.std.proofs.Common.{◌≡◌, ℕ, Bool, true, false, ◌||◌, List, [], ◌∷◌, refl, sym, ap, subst, inl, inr, true≢false, ◌++◌, arith, drop}
use Rattle.std.proofs.Common.{cond}
use Rattle.std.proofs.lemmas.Bool.{eq-eqb}
use Rattle.std.specs.Prelude.{◌==◌}
use Rattle.std.specs.List.{AllByRecursion}
use Rattle.std.specs.Char.{to_ascii_lowercase}
use Rattle.std.specs.Float.Parse.{completes_number, is_infinity_text, is_nan_text, is_float_text, lowercases_to, float_scan_step}
use Rattle.sf_float_read.specs.declared.item.reached.Radix.TheVariants.{Ten}
use Rattle.sf_float_read.specs.item.Sequences.{AllDecimal, IsDecimal, IsSignedDecimal, IsFraction, IsSomeFraction, IsWhole, IsNumber}
use Rattle.sf_float_read.specs.item.Sequences.{SpellsWord}
use Rattle.sf_float_read.specs.item.Sequences.{Begins, IsInfinityTail, IsNanTail, IsZeroTail, IsUnsigned, is_sign}
use Rattle.sf_float_read.specs.item.Laws.{is_plain, PlainFloatsParse}
use Rattle.sf_float_read.specs.item.Parts.{IsSign}
use Rattle.sf_float_read.proofs.ItemLemmas.Apart.{either}

all_completes : (t : List ℕ) → AllDecimal t → completes_number 6 t ≡ true
all_completes [] h = refl
all_completes (b ∷ t) h = rw h.0 (all_completes t h.1)

decimal_completes : (t : List ℕ) → IsDecimal t → completes_number 5 t ≡ true
decimal_completes [] h = absurd h
decimal_completes (b ∷ t) h = rw h.0 (all_completes t h.1)

signed_completes : (t : List ℕ) → IsSignedDecimal t → completes_number 4 t ≡ true
signed_completes [] h = absurd h
signed_completes (b ∷ t) (inl s) =
    elim (either 43 45 b s.0) [
      | inl e ↦ subst (λ c. completes_number (float_scan_step 4 c) t ≡ true) (sym e) (decimal_completes t s.1)
      | inr e ↦ subst (λ c. completes_number (float_scan_step 4 c) t ≡ true) (sym e) (decimal_completes t s.1)
    ]
signed_completes (b ∷ t) (inr d) = rw d.0 (all_completes t d.1)

fraction_completes : (t : List ℕ) → IsFraction Ten t → completes_number 3 t ≡ true
fraction_completes [] h = refl
fraction_completes (b ∷ t) (inl d) = rw d.0 (fraction_completes t d.1)
fraction_completes (b ∷ t) (inr e) =
    elim (either 101 69 b e.0) [
      | inl s ↦ subst (λ c. completes_number (float_scan_step 3 c) t ≡ true) (sym s) (signed_completes t e.1)
      | inr s ↦ subst (λ c. completes_number (float_scan_step 3 c) t ≡ true) (sym s) (signed_completes t e.1)
    ]

some_completes : (t : List ℕ) → IsSomeFraction Ten t → completes_number 2 t ≡ true
some_completes [] h = absurd h
some_completes (b ∷ t) d = rw d.0 (fraction_completes t d.1)

whole_completes : (t : List ℕ) → IsWhole Ten t → completes_number 1 t ≡ true
whole_completes [] h = refl
whole_completes (b ∷ t) (inl d) = rw d.0 (whole_completes t d.1)
whole_completes (b ∷ t) (inr (inl p)) = subst (λ c. completes_number (float_scan_step 1 c) t ≡ true) (sym p.0) (fraction_completes t p.1)
whole_completes (b ∷ t) (inr (inr e)) =
    elim (either 101 69 b e.0) [
      | inl s ↦ subst (λ c. completes_number (float_scan_step 1 c) t ≡ true) (sym s) (signed_completes t e.1)
      | inr s ↦ subst (λ c. completes_number (float_scan_step 1 c) t ≡ true) (sym s) (signed_completes t e.1)
    ]

pub number_completes : (t : List ℕ) → IsNumber Ten t → completes_number 0 t ≡ true
number_completes [] h = absurd h
number_completes (b ∷ t) (inl d) = rw d.0 (whole_completes t d.1)
number_completes (b ∷ t) (inr p) = subst (λ c. completes_number (float_scan_step 0 c) t ≡ true) (sym p.0) (some_completes t p.1)

-- ---- words

spells : (ws t : List ℕ) → SpellsWord ws t → lowercases_to t ws ≡ true
spells [] [] h = refl
spells [] (b ∷ t) h = absurd h
spells (w ∷ ws) [] h = absurd h
spells (w ∷ ws) (b ∷ t) h = rw (eq-eqb (to_ascii_lowercase b) w h.0) (spells ws t h.1)

or_l : (a b : Bool) → a ≡ true → (a || b) ≡ true
or_l a b h = ap (λ x. x || b) h

or_r : (a b : Bool) → b ≡ true → (a || b) ≡ true
or_r true b h = refl
or_r false b h = h

infinity : (ws t : List ℕ) → Begins ws IsInfinityTail t → (lowercases_to t ws || lowercases_to t (ws ++ 105 ∷ 110 ∷ 105 ∷ 116 ∷ 121 ∷ []))
    ≡ true
infinity [] t (inl e) = subst (λ x. (lowercases_to x [] || lowercases_to x (105 ∷ 110 ∷ 105 ∷ 116 ∷ 121 ∷ [])) ≡ true) (sym e) refl
infinity [] t (inr s) = or_r (lowercases_to t []) _ (spells (105 ∷ 110 ∷ 105 ∷ 116 ∷ 121 ∷ []) t s)
infinity (w ∷ ws) [] h = absurd h
infinity (w ∷ ws) (b ∷ t) h = rw (eq-eqb (to_ascii_lowercase b) w h.0) (infinity ws t h.1)

nan_word : (ws t : List ℕ) → AllByRecursion (λ c. is_plain c false) t → Begins ws IsNanTail t → lowercases_to t ws ≡ true
nan_word [] [] p h = refl
nan_word [] (b ∷ t) p h = absurd (true≢false (subst (λ c. is_plain c false) h.0 p.0))
nan_word (w ∷ ws) [] p h = absurd h
nan_word (w ∷ ws) (b ∷ t) p h = rw (eq-eqb (to_ascii_lowercase b) w h.0) (nan_word ws t p.1 h.1)

abbrev is_body : List ℕ → Bool
is_body t = completes_number 0 t || (is_infinity_text t || is_nan_text t)

no_prefix : (b : ℕ) → is_plain b false → (b == 120 || b == 88) ≡ true → ⊥
no_prefix b p h =
    elim (either 120 88 b h) [
      | inl e ↦ true≢false (subst (λ c. is_plain c false) e p)
      | inr e ↦ true≢false (subst (λ c. is_plain c false) e p)
    ]

zero_body : (t : List ℕ) → AllByRecursion (λ c. is_plain c false) t → IsZeroTail t → completes_number 1 t ≡ true
zero_body [] p h = refl
zero_body (b ∷ t) p (inl w) = whole_completes (b ∷ t) w
zero_body (b ∷ t) p (inr x) = absurd (no_prefix b p.0 x.0)

body : (t : List ℕ) → AllByRecursion (λ c. is_plain c false) t → IsUnsigned t → is_body t ≡ true
body [] p h = absurd h
body (b ∷ t) p (inl z) = or_l _ _ (subst (λ c. completes_number (float_scan_step 0 c) t ≡ true) (sym z.0) (zero_body t p.1 z.1))
body (b ∷ t) p (inr (inl n)) = or_l _ _ (number_completes (b ∷ t) n)
body (b ∷ t) p (inr (inr (inl i))) = or_r (completes_number 0 (b ∷ t)) _ (or_l _ _ (infinity (105 ∷ 110 ∷ 102 ∷ []) (b ∷ t) i))
body (b ∷ t) p (inr (inr (inr n))) = or_r (completes_number 0 (b ∷ t)) _
    (or_r (is_infinity_text (b ∷ t)) _ (nan_word (110 ∷ 97 ∷ 110 ∷ []) (b ∷ t) p n))

-- ---- the sign

false≢true : false ≡ true → ⊥
false≢true h = true≢false (sym h)

pub plus_opens_none : (t : List ℕ) → IsUnsigned (43 ∷ t) → ⊥
plus_opens_none t (inl z) = absurd (omega (arith, z.0))
plus_opens_none t (inr (inl (inl d))) = false≢true d.0
plus_opens_none t (inr (inl (inr p))) = absurd (omega (arith, p.0))
plus_opens_none t (inr (inr (inl i))) = absurd (omega (arith, i.0))
plus_opens_none t (inr (inr (inr n))) = absurd (omega (arith, n.0))

pub minus_opens_none : (t : List ℕ) → IsUnsigned (45 ∷ t) → ⊥
minus_opens_none t (inl z) = absurd (omega (arith, z.0))
minus_opens_none t (inr (inl (inl d))) = false≢true d.0
minus_opens_none t (inr (inl (inr p))) = absurd (omega (arith, p.0))
minus_opens_none t (inr (inr (inl i))) = absurd (omega (arith, i.0))
minus_opens_none t (inr (inr (inr n))) = absurd (omega (arith, n.0))

pub unsigned_opens : (b : ℕ) (t : List ℕ) → IsUnsigned (b ∷ t) → is_sign b ≡ false
unsigned_opens b t h = go (is_sign b) refl
  where
    go : (s : Bool) → is_sign b ≡ s → s ≡ false
    go false e = refl
    go true e =
        elim (either 43 45 b e) [
          | inl p ↦ absurd (plus_opens_none t (subst (λ c. IsUnsigned (c ∷ t)) p h))
          | inr m ↦ absurd (minus_opens_none t (subst (λ c. IsUnsigned (c ∷ t)) m h))
        ]

pub plain_parses : PlainFloatsParse
plain_parses [] p h = absurd h
plain_parses (b ∷ t) p (inl s) = subst (λ u. is_body u ≡ true) (sym (ap (λ x. drop (cond x 1 0) (b ∷ t)) s.0)) (body t p.1 s.1)
plain_parses (b ∷ t) p (inr u) = subst (λ w. is_body w ≡ true) (sym (ap (λ x. drop (cond x 1 0) (b ∷ t)) (unsigned_opens b t u)))
    (body (b ∷ t) p u)

-- a decimal number after a sign, or after none
pub number_parses : (sign size : List ℕ) → IsSign sign → IsNumber Ten size → is_float_text (sign ++ size) ≡ true
number_parses sign [] s h = absurd h
number_parses sign (b ∷ t) (inl e) h =
    subst (λ x. is_float_text (x ++ b ∷ t) ≡ true) (sym e)
    (subst (λ w. is_body w ≡ true) (sym (ap (λ x. drop (cond x 1 0) (b ∷ t)) (unsigned_opens b t (inr (inl h)))))
    (or_l _ _ (number_completes (b ∷ t) h)))
number_parses sign (b ∷ t) (inr (inl e)) h = subst (λ x. is_float_text (x ++ b ∷ t) ≡ true) (sym e) (or_l _ _ (number_completes (b ∷ t) h))
number_parses sign (b ∷ t) (inr (inr e)) h = subst (λ x. is_float_text (x ++ b ∷ t) ≡ true) (sym e) (or_l _ _ (number_completes (b ∷ t) h))
