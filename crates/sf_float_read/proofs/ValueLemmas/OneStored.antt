-- One thing is stored of a matching sequence: its first bytes tell its sign and its form.
use Rattle.std.proofs.Common.{◌≡◌, ◌≢◌, ◌⊎◌, ℕ, ◌<◌, Bool, true, false, cond, List, [], ◌∷◌, ◌++◌, eqb, slice_index, Option, Some, refl}
use Rattle.std.proofs.Common.{sym, ap, ◌∙◌, subst, inl, inr, arith}
use Rattle.std.specs.Char.{is_ascii_digit, to_ascii_lowercase}
use Rattle.std.specs.Float.Ieee.{Float, Format}
use Rattle.std.specs.Float.Parse.{parse_float}
use Rattle.std.proofs.lemmas.Bool.{ne_eqb}
use Rattle.sf_float_read.specs.declared.item.reached.Radix.TheVariants.{Ten}
use Rattle.sf_float_read.specs.item.Sequences.{IsWhole, IsSomeFraction, IsNumber, SpellsWord}
use Rattle.sf_float_read.specs.item.Parts.{IsSign, IsInfinity, IsNan}
use Rattle.sf_float_read.proofs.ItemLemmas.Joined.{number_of}
use Rattle.sf_float_read.specs.value.Values.{is_minus, stored, IsHexValue, IsStoredSize}
use Rattle.sf_float_read.specs.value.Laws.{OneStored}
use Rattle.sf_float_read.proofs.ValueLemmas.FormsApart.{lower, digit_lower, no_number}
use Rattle.sf_float_read.proofs.ValueLemmas.HexBack.{one_hex_value}

-- ---- which form the first bytes tell

second : List ℕ → ℕ
second [] = 0
second (c ∷ u) = to_ascii_lowercase c

form : List ℕ → ℕ
form [] = 0
form (b ∷ t) = cond (eqb (to_ascii_lowercase b) 105) 2 (cond (eqb (to_ascii_lowercase b) 110) 3 (cond (eqb (second t) 120) 1 0))

-- it isn't a sign
abbrev Opens : List ℕ → Type 0
Opens [] = ⊥
Opens (b ∷ t) = (b ≢ 43) × (b ≢ 45)

abbrev Tells : ℕ → List ℕ → Type 0
Tells k size = (form size ≡ k) × Opens size

low_form : (b : ℕ) (t : List ℕ) → b < 58 → second t ≢ 120 → form (b ∷ t) ≡ 0
unfolding form
low_form b t l s =
    let e : to_ascii_lowercase b ≡ b = lower b (omega arith) in
    let not_i : eqb (to_ascii_lowercase b) 105 ≡ false = ne_eqb _ _ (λ k. absurd (omega (arith, k, e))) in
    let not_n : eqb (to_ascii_lowercase b) 110 ≡ false = ne_eqb _ _ (λ k. absurd (omega (arith, k, e))) in
    let not_x : eqb (second t) 120 ≡ false = ne_eqb _ _ s in
    rw (not_i, not_n, not_x) refl

whole_second : (t : List ℕ) → IsWhole Ten t → second t ≢ 120
unfolding second
whole_second [] w e = absurd (omega (arith, e))
whole_second (c ∷ u) w e = no_number c u e w

fraction_second : (t : List ℕ) → IsSomeFraction Ten t → second t ≢ 120
unfolding second
fraction_second [] w e = absurd w
fraction_second (c ∷ u) w e =
    let l = digit_lower c w.0 in
    absurd (omega (arith, e, lower c (omega (arith, l)), l))

in_digits : (b : ℕ) → is_ascii_digit b ≡ true → 47 < b
in_digits b h = grind arith

number_tells : (t : List ℕ) → IsNumber Ten t → Tells 0 t
number_tells [] n = absurd n
number_tells (b ∷ t) (inl d) = (
  low_form b t (digit_lower b d.0) (whole_second t d.1),
  ((λ e. absurd (omega (arith, e, in_digits b d.0))), (λ e. absurd (omega (arith, e, in_digits b d.0)))),
)
number_tells (b ∷ t) (inr p) = (
  low_form b t (omega (arith, p.0)) (fraction_second t p.1),
  ((λ e. absurd (omega (arith, e, p.0))), (λ e. absurd (omega (arith, e, p.0)))),
)

prefix_tells : (c : ℕ) (u : List ℕ) → (c ≡ 120) ⊎ (c ≡ 88) → Tells 1 (48 ∷ c ∷ u)
unfolding form second
prefix_tells c u (inl e) = (rw e refl, ((λ k. absurd (omega (arith, k))), (λ k. absurd (omega (arith, k)))))
prefix_tells c u (inr e) = (rw e refl, ((λ k. absurd (omega (arith, k))), (λ k. absurd (omega (arith, k)))))

no_sign : (b w : ℕ) → to_ascii_lowercase b ≡ w → 64 < w → (b ≢ 43) × (b ≢ 45)
no_sign b w e l = (
  (λ k. absurd (omega (arith, k, e, lower b (omega (arith, k))))),
  (λ k. absurd (omega (arith, k, e, lower b (omega (arith, k))))),
)

letter_i : (b : ℕ) (t : List ℕ) → to_ascii_lowercase b ≡ 105 → Tells 2 (b ∷ t)
unfolding form
letter_i b t e = (rw e refl, no_sign b 105 e (omega arith))

letter_n : (b : ℕ) (t : List ℕ) → to_ascii_lowercase b ≡ 110 → Tells 3 (b ∷ t)
unfolding form
letter_n b t e = (rw e refl, no_sign b 110 e (omega arith))

infinity_tells : (t : List ℕ) → IsInfinity t → Tells 2 t
infinity_tells [] (inl s) = absurd s
infinity_tells [] (inr s) = absurd s
infinity_tells (b ∷ t) (inl s) = letter_i b t s.0
infinity_tells (b ∷ t) (inr s) = letter_i b t s.0

nan_tells : (t : List ℕ) → IsNan t → Tells 3 t
nan_tells t (name, chars, spells, tail, is) = subst (Tells 3) (sym is) (by name spells)
  where
    by : (n : List ℕ) → SpellsWord (110 ∷ 97 ∷ 110 ∷ []) n → Tells 3 (n ++ chars)
    by [] s = absurd s
    by (b ∷ t) s = letter_n b (t ++ chars) s.0

module _ (f : Format) (negative : Bool) (item : List ℕ) where
  which : (size : List ℕ) (r : Option ℕ) → IsStoredSize f negative item size r → ℕ
  which size r (inl n) = 0
  which size r (inr (inl h)) = 1
  which size r (inr (inr (inl i))) = 2
  which size r (inr (inr (inr n))) = 3

  tells : (size : List ℕ) (r : Option ℕ) (s : IsStoredSize f negative item size r) → Tells (which size r s) size
  unfolding which
  tells size r (inl n) = number_tells size (number_of Ten size n.0)
  tells size r (inr (inl (c, numeral, x, is, value))) = subst (Tells 1) (sym is) (prefix_tells c numeral x)
  tells size r (inr (inr (inl i))) = infinity_tells size i.0
  tells size r (inr (inr (inr n))) = nan_tells size n.0

  apart : {A : Type 0} (size : List ℕ) (a b : Option ℕ) (s : IsStoredSize f negative item size a) (t : IsStoredSize f negative item size b)
      → (which size a s ≡ which size b t → ⊥) → A
  apart size a b s t other = absurd (other (sym (tells size a s).0 ∙ (tells size b t).0))

  tail_of : (size u v : List ℕ) (c d : ℕ) → size ≡ 48 ∷ c ∷ u → size ≡ 48 ∷ d ∷ v → u ≡ v
  tail_of size u v c d e k = cc

  some_is : (x y : Float) (o : Option Float) → o ≡ Some x → o ≡ Some y → x ≡ y
  some_is x y o e k = cc

  one_size : (size : List ℕ) (a b : Option ℕ) → IsStoredSize f negative item size a → IsStoredSize f negative item size b → a ≡ b
  unfolding which
  one_size size a b (inl (n, (x, p, is))) (inl (m, (y, q, too))) =
      is ∙ ap (stored f) (some_is x y (parse_float f item) p q) ∙ sym too
  one_size size a b (inr (inl (c, u, cx, e, (x, v, is)))) (inr (inl (d, w, dx, k, (y, z, too)))) =
      let same : u ≡ w = tail_of size u w c d e k in
      is ∙ ap (stored f) (one_hex_value f negative w x y (subst (λ t. IsHexValue f negative t x) same v) z) ∙ sym too
  one_size size a b (inr (inr (inl i))) (inr (inr (inl j))) = i.1 ∙ sym j.1
  one_size size a b (inr (inr (inr n))) (inr (inr (inr m))) = n.1 ∙ sym m.1
  one_size size a b (inl n) (inr (inl h)) = apart size a b (inl n) (inr (inl h)) (λ e. absurd (omega (arith, e)))
  one_size size a b (inl n) (inr (inr (inl h))) = apart size a b (inl n) (inr (inr (inl h))) (λ e. absurd (omega (arith, e)))
  one_size size a b (inl n) (inr (inr (inr h))) = apart size a b (inl n) (inr (inr (inr h))) (λ e. absurd (omega (arith, e)))
  one_size size a b (inr (inl n)) (inl h) = apart size a b (inr (inl n)) (inl h) (λ e. absurd (omega (arith, e)))
  one_size size a b (inr (inl n)) (inr (inr (inl h))) = apart size a b (inr (inl n)) (inr (inr (inl h))) (λ e. absurd (omega (arith, e)))
  one_size size a b (inr (inl n)) (inr (inr (inr h))) = apart size a b (inr (inl n)) (inr (inr (inr h))) (λ e. absurd (omega (arith, e)))
  one_size size a b (inr (inr (inl n))) (inl h) = apart size a b (inr (inr (inl n))) (inl h) (λ e. absurd (omega (arith, e)))
  one_size size a b (inr (inr (inl n))) (inr (inl h)) = apart size a b (inr (inr (inl n))) (inr (inl h)) (λ e. absurd (omega (arith, e)))
  one_size size a b (inr (inr (inl n))) (inr (inr (inr h))) =
      apart size a b (inr (inr (inl n))) (inr (inr (inr h))) (λ e. absurd (omega (arith, e)))
  one_size size a b (inr (inr (inr n))) (inl h) = apart size a b (inr (inr (inr n))) (inl h) (λ e. absurd (omega (arith, e)))
  one_size size a b (inr (inr (inr n))) (inr (inl h)) = apart size a b (inr (inr (inr n))) (inr (inl h)) (λ e. absurd (omega (arith, e)))
  one_size size a b (inr (inr (inr n))) (inr (inr (inl h))) =
      apart size a b (inr (inr (inr n))) (inr (inr (inl h))) (λ e. absurd (omega (arith, e)))

-- ---- the sign

no_plus : (t : List ℕ) (size : List ℕ) → Opens size → size ≡ 43 ∷ t → ⊥
no_plus t [] o e = absurd o
no_plus t (b ∷ u) o e = o.0 (let h : b ≡ 43 = cc in h)

no_minus : (t : List ℕ) (size : List ℕ) → Opens size → size ≡ 45 ∷ t → ⊥
no_minus t [] o e = absurd o
no_minus t (b ∷ u) o e = o.1 (let h : b ≡ 45 = cc in h)

tails : (b : ℕ) (t u : List ℕ) → b ∷ t ≡ b ∷ u → t ≡ u
tails b t u e = cc

joined : (sign mark size rest x y : List ℕ) → sign ≡ x → mark ≡ y → sign ++ size ≡ mark ++ rest → x ++ size ≡ y ++ rest
joined sign mark size rest x y s m e = ap (λ (t : List ℕ). t ++ size) (sym s) ∙ e ∙ ap (λ (t : List ℕ). t ++ rest) m

other_signs : (t u : List ℕ) → 43 ∷ t ≡ 45 ∷ u → ⊥
other_signs t u e = absurd (omega (arith, ap (λ (l : List ℕ). slice_index l 0) e))

same_parts : (sign mark size rest : List ℕ) → IsSign sign → IsSign mark → Opens size → Opens rest → sign ++ size ≡ mark ++ rest
    → (sign ≡ mark) × (size ≡ rest)
same_parts sign mark size rest (inl s) (inl m) o p e = (s ∙ sym m, joined sign mark size rest [] [] s m e)
same_parts sign mark size rest (inl s) (inr (inl m)) o p e =
    absurd (no_plus rest size o (joined sign mark size rest [] (43 ∷ []) s m e))
same_parts sign mark size rest (inl s) (inr (inr m)) o p e =
    absurd (no_minus rest size o (joined sign mark size rest [] (45 ∷ []) s m e))
same_parts sign mark size rest (inr (inl s)) (inl m) o p e =
    absurd (no_plus size rest p (sym (joined sign mark size rest (43 ∷ []) [] s m e)))
same_parts sign mark size rest (inr (inr s)) (inl m) o p e =
    absurd (no_minus size rest p (sym (joined sign mark size rest (45 ∷ []) [] s m e)))
same_parts sign mark size rest (inr (inl s)) (inr (inl m)) o p e =
    (s ∙ sym m, tails 43 size rest (joined sign mark size rest (43 ∷ []) (43 ∷ []) s m e))
same_parts sign mark size rest (inr (inr s)) (inr (inr m)) o p e =
    (s ∙ sym m, tails 45 size rest (joined sign mark size rest (45 ∷ []) (45 ∷ []) s m e))
same_parts sign mark size rest (inr (inl s)) (inr (inr m)) o p e =
    absurd (other_signs size rest (joined sign mark size rest (43 ∷ []) (45 ∷ []) s m e))
same_parts sign mark size rest (inr (inr s)) (inr (inl m)) o p e =
    absurd (other_signs rest size (sym (joined sign mark size rest (45 ∷ []) (43 ∷ []) s m e)))

pub one_stored : OneStored
one_stored f item a b (sign, size, signed, is, s) (mark, rest, marked, too, t) =
    let p = same_parts sign mark size rest signed marked (tells f (is_minus sign) item size a s).1 (tells f (is_minus mark) item rest b t).1
    (sym is ∙ too) in
    one_size f (is_minus sign) item size a b s
    (subst (λ (u : List ℕ). IsStoredSize f (is_minus sign) item u b) (sym p.1)
    (subst (λ (u : List ℕ). IsStoredSize f (is_minus u) item rest b) (sym p.0) t))
