-- What a byte does to what was read, by the table of places.
use Rattle.std.proofs.Common.{◌≡◌, ℕ, ◌<◌, ◌≤◌, Bool, true, false, ◌||◌, List, [], ◌∷◌, refl, sym, ap, ◌∙◌, subst, inl, inr, arith}
use Rattle.std.proofs.Common.{true≢false, Some, None, cond, length}
use lib.Dec.{lit<}
use Rattle.std.specs.Prelude.{Option, ◌==◌}
use Rattle.std.specs.Char.{is_ascii_digit, is_ascii_alphanumeric, to_ascii_lowercase}
use Rattle.std.proofs.lemmas.Bool.{eqb-true}
use Rattle.std.proofs.lemmas.Bool.Decides.{nat_tests}
use Rattle.sf_float_read.specs.declared.item.reached.Radix.{Radix}
use Rattle.sf_float_read.specs.declared.item.reached.Radix.TheVariants.{Ten, Sixteen}
use Rattle.sf_float_read.specs.declared.item.reached.Reached.{Reached}
use Rattle.sf_float_read.specs.declared.item.reached.Reached.TheVariants as at
use Rattle.sf_float_read.specs.item.Sequences.{is_digit, opens_exponent, is_sign, AllDecimal, IsSignedDecimal, IsExponentPart}
use Rattle.sf_float_read.specs.item.Sequences.{IsSomeFraction}
use Rattle.sf_float_read.specs.item.Sequences.{IsFraction, IsWhole, IsNumber, SpellsWord, IsPayload, IsNanTail, IsInfinityTail, IsZeroTail}
use Rattle.sf_float_read.specs.item.Sequences.{IsUnsigned}
use Rattle.sf_float_read.specs.item.Steps.{Completes, Goes}
use Rattle.sf_float_read.specs.item.Tests as tests
use Rattle.sf_float_read.proofs.ItemLemmas.Apart.{point_apart, exponent_apart, either, goes_as}
use Rattle.sf_float_read.proofs.ItemLemmas.Parses.{unsigned_opens}

goes_if : (test : Bool) (P : List ℕ → Type 0) (a b : Option Reached) → (test ≡ true → Goes P a) → (test ≡ false → Goes P b)
    → Goes P (cond test a b)
goes_if true P a b on off = on refl
goes_if false P a b on off = off refl

pub both : {test : Bool} → test ≡ true → test ≡ false → ⊥
both on off = true≢false (sym on ∙ off)

same_not : (a b : ℕ) → (a == b) ≡ false → a ≡ b → ⊥
same_not a b off e = grind (arith, nat_tests, off, e)

-- ---- digits

exponent_goes : (b : ℕ) → Goes (λ t. AllDecimal (b ∷ t)) (tests.after_exponent b)
exponent_goes b = goes_if (is_ascii_digit b) (λ t. AllDecimal (b ∷ t)) (Some at.Exponent) None (λ e t. ((λ h. h.1), (λ h. (e, h))))
    (λ e t h. both h.0 e)

sign_apart : (b : ℕ) → is_ascii_digit b ≡ true → is_sign b ≡ true → ⊥
sign_apart b d s =
    elim (either 43 45 b s) [
      | inl e ↦ true≢false (sym d ∙ ap is_ascii_digit e)
      | inr e ↦ true≢false (sym d ∙ ap is_ascii_digit e)
    ]

letter_goes_on : (b : ℕ) → Goes (λ t. IsSignedDecimal (b ∷ t)) (tests.after_letter b)
letter_goes_on b =
    goes_if (is_sign b) (λ t. IsSignedDecimal (b ∷ t)) (Some at.LetterSign) (tests.after_exponent b)
    (λ e t. ((λ h. elim h [ inl s ↦ s.1 | inr d ↦ absurd (sign_apart b d.0 e) ]), (λ h. inl (e, h))))
    (λ e. goes_as (λ t. AllDecimal (b ∷ t)) (λ t. IsSignedDecimal (b ∷ t)) (tests.after_exponent b)
    (λ t. ((λ h. elim h [ inl s ↦ absurd (both s.0 e) | inr d ↦ d ]), (λ d. inr d))) (exponent_goes b))

opening_goes : (radix : Radix) (b : ℕ) → Goes (λ t. IsExponentPart radix (b ∷ t)) (tests.letter_of_exponent radix b)
opening_goes radix b =
    goes_if (opens_exponent radix b) (λ t. IsExponentPart radix (b ∷ t)) (Some at.Letter) None (λ e t. ((λ h. h.1), (λ h. (e, h))))
    (λ e t h. both h.0 e)

point_goes : (radix : Radix) (b : ℕ) → Goes (λ t. IsSomeFraction radix (b ∷ t)) (tests.after_point radix b)
point_goes radix b =
    goes_if (is_digit radix b) (λ t. IsSomeFraction radix (b ∷ t)) (Some (at.Fraction radix)) None
    (λ e t. ((λ h. h.1), (λ h. (e, h)))) (λ e t h. both h.0 e)

fraction_goes : (radix : Radix) (b : ℕ) → Goes (λ t. IsFraction radix (b ∷ t)) (tests.after_fraction radix b)
fraction_goes radix b =
    goes_if (is_digit radix b) (λ t. IsFraction radix (b ∷ t)) (Some (at.Fraction radix)) (tests.letter_of_exponent radix b)
    (λ e t. ((λ h. elim h [ inl d ↦ d.1 | inr x ↦ absurd (exponent_apart radix b e x.0) ]), (λ h. inl (e, h))))
    (λ e. goes_as (λ t. IsExponentPart radix (b ∷ t)) (λ t. IsFraction radix (b ∷ t)) (tests.letter_of_exponent radix b)
    (λ t. ((λ h. elim h [ inl d ↦ absurd (both d.0 e) | inr x ↦ x ]), (λ x. inr x))) (opening_goes radix b))

no_letter : (radix : Radix) → opens_exponent radix 46 ≡ false
no_letter Ten = refl
no_letter Sixteen = refl

letter_apart : (radix : Radix) (b : ℕ) → b ≡ 46 → opens_exponent radix b ≡ true → ⊥
letter_apart radix b e o = both o (ap (opens_exponent radix) e ∙ no_letter radix)

digits_go : (radix : Radix) (b : ℕ) → Goes (λ t. IsWhole radix (b ∷ t)) (tests.after_digits radix b)
digits_go radix b =
    goes_if (is_digit radix b) (λ t. IsWhole radix (b ∷ t)) (Some (at.Whole radix))
    (cond (b == 46) (Some (at.Fraction radix)) (tests.letter_of_exponent radix b))
    (λ e t. (
      (λ h. elim h [
        | inl d ↦ d.1
        | inr y ↦ elim y [ inl p ↦ absurd (point_apart radix b e p.0) | inr x ↦ absurd (exponent_apart radix b e x.0) ]
      ]),
      (λ h. inl (e, h)),
    )) (λ e.
    goes_if (b == 46) (λ t. IsWhole radix (b ∷ t)) (Some (at.Fraction radix)) (tests.letter_of_exponent radix b)
    (λ p t. (
      (λ h. elim h [
        | inl d ↦ absurd (both d.0 e)
        | inr y ↦ elim y [ inl q ↦ q.1 | inr x ↦ absurd (letter_apart radix b (eqb-true b 46 p) x.0) ]
      ]),
      (λ h. inr (inl (eqb-true b 46 p, h))),
    )) (λ n. goes_as (λ t. IsExponentPart radix (b ∷ t)) (λ t. IsWhole radix (b ∷ t)) (tests.letter_of_exponent radix b)
    (λ t. (
      (λ h. elim h [
        | inl d ↦ absurd (both d.0 e)
        | inr y ↦ elim y [ inl q ↦ absurd (same_not b 46 n q.0) | inr x ↦ x ]
      ]),
      (λ x. inr (inr x)),
    )) (opening_goes radix b)))

number_goes : (radix : Radix) (b : ℕ) → Goes (λ t. IsNumber radix (b ∷ t)) (tests.first_of_number radix b)
number_goes radix b =
    goes_if (is_digit radix b) (λ t. IsNumber radix (b ∷ t)) (Some (at.Whole radix)) (cond (b == 46) (Some (at.Point radix)) None)
    (λ e t. ((λ h. elim h [ inl d ↦ d.1 | inr p ↦ absurd (point_apart radix b e p.0) ]), (λ h. inl (e, h)))) (λ e.
    goes_if (b == 46) (λ t. IsNumber radix (b ∷ t)) (Some (at.Point radix)) None
    (λ p t. ((λ h. elim h [ inl d ↦ absurd (both d.0 e) | inr q ↦ q.1 ]), (λ h. inr (eqb-true b 46 p, h))))
    (λ n t h. elim h [ inl d ↦ both d.0 e | inr q ↦ same_not b 46 n q.0 ]))

-- ---- a prefix

false_not : false ≡ true → ⊥
false_not e = true≢false (sym e)

no_x : (t : List ℕ) → IsWhole Ten (120 ∷ t) → ⊥
no_x t (inl d) = false_not d.0
no_x t (inr (inl p)) = absurd (omega (arith, p.0))
no_x t (inr (inr x)) = false_not x.0

no_big_x : (t : List ℕ) → IsWhole Ten (88 ∷ t) → ⊥
no_big_x t (inl d) = false_not d.0
no_big_x t (inr (inl p)) = absurd (omega (arith, p.0))
no_big_x t (inr (inr x)) = false_not x.0

prefix_apart : (b : ℕ) (t : List ℕ) → (b == 120 || b == 88) ≡ true → IsWhole Ten (b ∷ t) → ⊥
prefix_apart b t x w =
    elim (either 120 88 b x) [
      | inl e ↦ no_x t (subst (λ c. IsWhole Ten (c ∷ t)) e w)
      | inr e ↦ no_big_x t (subst (λ c. IsWhole Ten (c ∷ t)) e w)
    ]

zero_goes : (b : ℕ) → Goes (λ t. IsZeroTail (b ∷ t)) (tests.after_zero b)
zero_goes b =
    goes_if (b == 120 || b == 88) (λ t. IsZeroTail (b ∷ t)) (Some at.Prefix) (tests.after_digits Ten b)
    (λ e t. ((λ h. elim h [ inl w ↦ absurd (prefix_apart b t e w) | inr x ↦ x.1 ]), (λ h. inr (e, h))))
    (λ e. goes_as (λ t. IsWhole Ten (b ∷ t)) (λ t. IsZeroTail (b ∷ t)) (tests.after_digits Ten b)
    (λ t. ((λ h. elim h [ inl w ↦ w | inr x ↦ absurd (both x.0 e) ]), (λ w. inl w))) (digits_go Ten b))

-- ---- words

pub letter_goes : (b lower : ℕ) (place : Reached) → Goes (λ t. (to_ascii_lowercase b ≡ lower) × Completes place t)
    (tests.letter b lower place)
letter_goes b lower place =
    goes_if (to_ascii_lowercase b == lower) (λ t. (to_ascii_lowercase b ≡ lower) × Completes place t) (Some place) None
    (λ e t. ((λ h. h.1), (λ h. (eqb-true (to_ascii_lowercase b) lower e, h))))
    (λ e t h. same_not (to_ascii_lowercase b) lower e h.0)

not_nil : (b : ℕ) (t : List ℕ) → b ∷ t ≡ [] → ⊥
not_nil b t e = absurd (omega (arith, ap length e))

inf_goes : (b : ℕ) → Goes (λ t. IsInfinityTail (b ∷ t)) (tests.letter b 105 at.Infi)
inf_goes b =
    goes_as (λ t. (to_ascii_lowercase b ≡ 105) × SpellsWord (110 ∷ 105 ∷ 116 ∷ 121 ∷ []) t) (λ t. IsInfinityTail (b ∷ t))
    (tests.letter b 105 at.Infi) (λ t. ((λ h. elim h [ inl e ↦ absurd (not_nil b t e) | inr s ↦ s ]), (λ s. inr s)))
    (letter_goes b 105 at.Infi)

nan_goes : (b : ℕ) → Goes (λ t. IsNanTail (b ∷ t)) (cond (b == 40) (Some at.Open) None)
nan_goes b =
    goes_if (b == 40) (λ t. IsNanTail (b ∷ t)) (Some at.Open) None (λ e t. ((λ h. h.1), (λ h. (eqb-true b 40 e, h))))
    (λ e t h. same_not b 40 e h.0)

abbrev is_char : ℕ → Bool
is_char b = is_ascii_alphanumeric b || b == 95

char_apart : (b : ℕ) → b ≡ 41 → is_char b ≡ true → ⊥
char_apart b e c = both c (ap is_char e)

payload_goes : (b : ℕ) → Goes (λ t. IsPayload (b ∷ t)) (tests.in_parentheses b)
payload_goes b =
    goes_if (b == 41) (λ t. IsPayload (b ∷ t)) (Some at.Closed) (cond (is_char b) (Some at.Open) None)
    (λ e t. (
      (λ h. elim h [ inl c ↦ c.1 | inr x ↦ absurd (char_apart b (eqb-true b 41 e) x.0) ]),
      (λ h. inl (eqb-true b 41 e, h)),
    )) (λ e. goes_if (is_char b) (λ t. IsPayload (b ∷ t)) (Some at.Open) None
    (λ x t. ((λ h. elim h [ inl c ↦ absurd (same_not b 41 e c.0) | inr y ↦ y.1 ]), (λ h. inr (x, h))))
    (λ n t h. elim h [ inl c ↦ same_not b 41 e c.0 | inr y ↦ both y.0 n ]))

-- ---- what follows the sign

lower_digit : (b w : ℕ) → 65 ≤ w → is_ascii_digit b ≡ true → to_ascii_lowercase b ≡ w → ⊥
lower_digit b w high d e = grind (arith, nat_tests, high, d, e)

lower_low : (b c w : ℕ) → b ≡ c → to_ascii_lowercase c < w → to_ascii_lowercase b ≡ w → ⊥
lower_low b c w e low is = absurd (omega (arith, ap to_ascii_lowercase e, low, is))

number_apart : (b w : ℕ) (t : List ℕ) → 97 ≤ w → to_ascii_lowercase b ≡ w → IsNumber Ten (b ∷ t) → ⊥
number_apart b w t high is (inl d) = lower_digit b w (omega (arith, high)) d.0 is
number_apart b w t high is (inr p) = absurd (omega (arith, ap to_ascii_lowercase p.0, high, is))

zero_apart : (b w : ℕ) → 97 ≤ w → to_ascii_lowercase b ≡ w → b ≡ 48 → ⊥
zero_apart b w high is e = absurd (omega (arith, ap to_ascii_lowercase e, high, is))

whole_tail : (t : List ℕ) → IsWhole Ten t → IsZeroTail t
whole_tail [] w = tt
whole_tail (b ∷ t) w = inl w

abbrev Unsigned : ℕ → List ℕ → Type 0
Unsigned b t = IsUnsigned (b ∷ t)

zero_first : (b : ℕ) → b ≡ 48 → Goes (Unsigned b) (Some at.Zero)
zero_first b e t = (
  (λ h. elim h [
    | inl z ↦ z.1
    | inr y ↦ elim y [
      | inl n ↦ elim n [ inl d ↦ whole_tail t d.1 | inr p ↦ absurd (omega (arith, e, p.0)) ]
      | inr w ↦ elim w [
        | inl i ↦ absurd (omega (arith, ap to_ascii_lowercase e, i.0))
        | inr n ↦ absurd (omega (arith, ap to_ascii_lowercase e, n.0))
      ]
    ]
  ]),
  (λ h. inl (e, h)),
)

i_first : (b : ℕ) → to_ascii_lowercase b ≡ 105 → Goes (Unsigned b) (Some at.I)
i_first b e t = (
  (λ h. elim h [
    | inl z ↦ absurd (zero_apart b 105 (omega arith) e z.0)
    | inr y ↦ elim y [
      | inl n ↦ absurd (number_apart b 105 t (omega arith) e n)
      | inr w ↦ elim w [ inl i ↦ i.1 | inr n ↦ absurd (omega (arith, e, n.0)) ]
    ]
  ]),
  (λ h. inr (inr (inl (e, h)))),
)

n_first : (b : ℕ) → to_ascii_lowercase b ≡ 110 → Goes (Unsigned b) (Some at.N)
n_first b e t = (
  (λ h. elim h [
    | inl z ↦ absurd (zero_apart b 110 (omega arith) e z.0)
    | inr y ↦ elim y [
      | inl n ↦ absurd (number_apart b 110 t (omega arith) e n)
      | inr w ↦ elim w [ inl i ↦ absurd (omega (arith, e, i.0)) | inr n ↦ n.1 ]
    ]
  ]),
  (λ h. inr (inr (inr (e, h)))),
)

other_first : (b : ℕ) → (b == 48) ≡ false → (to_ascii_lowercase b == 105) ≡ false → (to_ascii_lowercase b == 110) ≡ false
    → Goes (Unsigned b) (tests.first_of_number Ten b)
other_first b z i n =
    goes_as (λ t. IsNumber Ten (b ∷ t)) (Unsigned b) (tests.first_of_number Ten b) (λ t. (
      (λ h. elim h [
        | inl x ↦ absurd (same_not b 48 z x.0)
        | inr y ↦ elim y [
          | inl x ↦ x
          | inr w ↦ elim w [
            | inl x ↦ absurd (same_not (to_ascii_lowercase b) 105 i x.0)
            | inr x ↦ absurd (same_not (to_ascii_lowercase b) 110 n x.0)
          ]
        ]
      ]),
      (λ x. inr (inl x)),
    )) (number_goes Ten b)

first_goes : (b : ℕ) → Goes (Unsigned b) (tests.first b)
first_goes b =
    goes_if (b == 48) (Unsigned b) (Some at.Zero) _ (λ e. zero_first b (eqb-true b 48 e))
    (λ z. goes_if (to_ascii_lowercase b == 105) (Unsigned b) (Some at.I) _ (λ e. i_first b (eqb-true (to_ascii_lowercase b) 105 e))
    (λ i. goes_if (to_ascii_lowercase b == 110) (Unsigned b) (Some at.N) _ (λ e. n_first b (eqb-true (to_ascii_lowercase b) 110 e))
    (λ n. other_first b z i n)))

minus_apart : (b : ℕ) (t : List ℕ) → b ≡ 45 → IsNumber Ten (b ∷ t) → ⊥
minus_apart b t e n = both (ap is_sign e) (unsigned_opens b t (inr (inl n)))

start_goes : (b : ℕ) → Goes (λ t. Completes at.Start (b ∷ t)) (tests.next at.Start b)
start_goes b =
    goes_if (is_sign b) (λ t. Completes at.Start (b ∷ t)) (Some at.Signed) (tests.first b)
    (λ e t. ((λ h. elim h [ inl s ↦ s.1 | inr u ↦ absurd (both e (unsigned_opens b t u)) ]), (λ h. inl (e, h))))
    (λ e. goes_as (Unsigned b) (λ t. Completes at.Start (b ∷ t)) (tests.first b)
    (λ t. ((λ h. elim h [ inl s ↦ absurd (both s.0 e) | inr u ↦ u ]), (λ u. inr u))) (first_goes b))

decimal_goes : (b : ℕ) → Goes (λ t. Completes at.DecimalStart (b ∷ t)) (tests.next at.DecimalStart b)
decimal_goes b =
    goes_if (b == 45) (λ t. Completes at.DecimalStart (b ∷ t)) (Some at.DecimalSigned) (tests.first_of_number Ten b)
    (λ e t. (
      (λ h. elim h [ inl s ↦ s.1 | inr n ↦ absurd (minus_apart b t (eqb-true b 45 e) n) ]),
      (λ h. inl (eqb-true b 45 e, h)),
    )) (λ e. goes_as (λ t. IsNumber Ten (b ∷ t)) (λ t. Completes at.DecimalStart (b ∷ t)) (tests.first_of_number Ten b)
    (λ t. ((λ h. elim h [ inl s ↦ absurd (same_not b 45 e s.0) | inr n ↦ n ]), (λ n. inr n))) (number_goes Ten b))

-- ---- all places

pub next_goes : (r : Reached) (b : ℕ) → Goes (λ t. Completes r (b ∷ t)) (tests.next r b)
next_goes at.Start b = start_goes b
next_goes at.Signed b = first_goes b
next_goes at.DecimalStart b = decimal_goes b
next_goes at.DecimalSigned b = number_goes Ten b
next_goes at.Zero b = zero_goes b
next_goes at.Prefix b = number_goes Sixteen b
next_goes (at.Whole radix) b = digits_go radix b
next_goes (at.Point radix) b = point_goes radix b
next_goes (at.Fraction radix) b = fraction_goes radix b
next_goes at.Letter b = letter_goes_on b
next_goes at.LetterSign b = exponent_goes b
next_goes at.Exponent b = exponent_goes b
next_goes at.I b = letter_goes b 110 at.In
next_goes at.In b = letter_goes b 102 at.Inf
next_goes at.Inf b = inf_goes b
next_goes at.Infi b = letter_goes b 110 at.Infin
next_goes at.Infin b = letter_goes b 105 at.Infini
next_goes at.Infini b = letter_goes b 116 at.Infinit
next_goes at.Infinit b = letter_goes_last b
  where
    letter_goes_last : (b : ℕ) → Goes (λ t. Completes at.Infinit (b ∷ t)) (tests.letter b 121 at.Infinity)
    letter_goes_last b = goes_as (λ t. (to_ascii_lowercase b ≡ 121) × (t ≡ [])) (λ t. (to_ascii_lowercase b ≡ 121) × SpellsWord [] t)
        (tests.letter b 121 at.Infinity) (λ t. (spelt t, spells t)) (letter_goes b 121 at.Infinity)
      where
        spelt : (t : List ℕ) → (to_ascii_lowercase b ≡ 121) × SpellsWord [] t → (to_ascii_lowercase b ≡ 121) × (t ≡ [])
        spelt [] h = (h.0, refl)
        spelt (c ∷ t) h = absurd h.1

        spells : (t : List ℕ) → (to_ascii_lowercase b ≡ 121) × (t ≡ []) → (to_ascii_lowercase b ≡ 121) × SpellsWord [] t
        spells t h = (h.0, subst (SpellsWord []) (sym h.1) tt)
next_goes at.Infinity b = λ t e. not_nil b t e
next_goes at.N b = letter_goes b 97 at.Na
next_goes at.Na b = letter_goes b 110 at.Nan
next_goes at.Nan b = nan_goes b
next_goes at.Open b = payload_goes b
next_goes at.Closed b = λ t e. not_nil b t e

-- ---- what is whole, and what is closed

refuted : (P : Type 0) → (P → ⊥) → (false ≡ true → P) × (P → false ≡ true)
refuted P not = ((λ e. absurd (false_not e)), (λ h. absurd (not h)))

shown : (P : Type 0) → P → (true ≡ true → P) × (P → true ≡ true)
shown P h = ((λ e. h), (λ _. refl))

pub whole_is : (r : Reached) → (tests.is_whole r ≡ true → Completes r []) × (Completes r [] → tests.is_whole r ≡ true)
whole_is at.Start = refuted _ (λ h. h)
whole_is at.Signed = refuted _ (λ h. h)
whole_is at.DecimalStart = refuted _ (λ h. h)
whole_is at.DecimalSigned = refuted _ (λ h. h)
whole_is at.Zero = shown _ tt
whole_is at.Prefix = refuted _ (λ h. h)
whole_is (at.Whole radix) = shown _ tt
whole_is (at.Point radix) = refuted _ (λ h. h)
whole_is (at.Fraction radix) = shown _ tt
whole_is at.Letter = refuted _ (λ h. h)
whole_is at.LetterSign = refuted _ (λ h. h)
whole_is at.Exponent = shown _ tt
whole_is at.I = refuted _ (λ h. h)
whole_is at.In = refuted _ (λ h. h)
whole_is at.Inf = shown _ (inl refl)
whole_is at.Infi = refuted _ (λ h. h)
whole_is at.Infin = refuted _ (λ h. h)
whole_is at.Infini = refuted _ (λ h. h)
whole_is at.Infinit = refuted _ (λ h. h)
whole_is at.Infinity = shown _ refl
whole_is at.N = refuted _ (λ h. h)
whole_is at.Na = refuted _ (λ h. h)
whole_is at.Nan = shown _ tt
whole_is at.Open = refuted _ (λ h. h)
whole_is at.Closed = shown _ refl

-- a byte that is taken after it
abbrev TakesOne : Reached → Type 0
TakesOne r = (b : ℕ) × (b < 256) × (tests.next r b ≡ None → ⊥)

taken : (r q : Reached) (b : ℕ) → b < 256 → tests.next r b ≡ Some q → TakesOne r
taken r q b byte is = (b, byte, λ none. some_none q (tests.next r b) is none)
  where
    some_none : (q : Reached) (o : Option Reached) → o ≡ Some q → o ≡ None → ⊥
    some_none q o is none = cc

takes_one : (r : Reached) → (r ≡ at.Infinity → ⊥) → (r ≡ at.Closed → ⊥) → TakesOne r
takes_one at.Start i c = taken at.Start at.Signed 43 (lit< tt) refl
takes_one at.Signed i c = taken at.Signed at.Zero 48 (lit< tt) refl
takes_one at.DecimalStart i c = taken at.DecimalStart at.DecimalSigned 45 (lit< tt) refl
takes_one at.DecimalSigned i c = taken at.DecimalSigned (at.Whole Ten) 48 (lit< tt) refl
takes_one at.Zero i c = taken at.Zero at.Prefix 120 (lit< tt) refl
takes_one at.Prefix i c = taken at.Prefix (at.Whole Sixteen) 48 (lit< tt) refl
takes_one (at.Whole Ten) i c = taken (at.Whole Ten) (at.Whole Ten) 48 (lit< tt) refl
takes_one (at.Whole Sixteen) i c = taken (at.Whole Sixteen) (at.Whole Sixteen) 48 (lit< tt) refl
takes_one (at.Point Ten) i c = taken (at.Point Ten) (at.Fraction Ten) 48 (lit< tt) refl
takes_one (at.Point Sixteen) i c = taken (at.Point Sixteen) (at.Fraction Sixteen) 48 (lit< tt) refl
takes_one (at.Fraction Ten) i c = taken (at.Fraction Ten) (at.Fraction Ten) 48 (lit< tt) refl
takes_one (at.Fraction Sixteen) i c = taken (at.Fraction Sixteen) (at.Fraction Sixteen) 48 (lit< tt) refl
takes_one at.Letter i c = taken at.Letter at.LetterSign 43 (lit< tt) refl
takes_one at.LetterSign i c = taken at.LetterSign at.Exponent 48 (lit< tt) refl
takes_one at.Exponent i c = taken at.Exponent at.Exponent 48 (lit< tt) refl
takes_one at.I i c = taken at.I at.In 110 (lit< tt) refl
takes_one at.In i c = taken at.In at.Inf 102 (lit< tt) refl
takes_one at.Inf i c = taken at.Inf at.Infi 105 (lit< tt) refl
takes_one at.Infi i c = taken at.Infi at.Infin 110 (lit< tt) refl
takes_one at.Infin i c = taken at.Infin at.Infini 105 (lit< tt) refl
takes_one at.Infini i c = taken at.Infini at.Infinit 116 (lit< tt) refl
takes_one at.Infinit i c = taken at.Infinit at.Infinity 121 (lit< tt) refl
takes_one at.Infinity i c = absurd (i refl)
takes_one at.N i c = taken at.N at.Na 97 (lit< tt) refl
takes_one at.Na i c = taken at.Na at.Nan 110 (lit< tt) refl
takes_one at.Nan i c = taken at.Nan at.Open 40 (lit< tt) refl
takes_one at.Open i c = taken at.Open at.Closed 41 (lit< tt) refl
takes_one at.Closed i c = absurd (c refl)

-- after each other place some byte is taken
pub not_closed : (r : Reached) → (r ≡ at.Infinity → ⊥) → (r ≡ at.Closed → ⊥) → ((b : ℕ) → b < 256 → tests.next r b ≡ None) → ⊥
not_closed r i c none = let one = takes_one r i c in one.2 (none one.0 one.1)
