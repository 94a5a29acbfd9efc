-- Zeros before a hexadecimal numeral and capital letters don't change its value.
use Rattle.std.proofs.Common.{◌≡◌, ◌⊎◌, inl, inr, ℕ, zero, suc, ◌+◌, ◌*◌, ◌^◌, Bool, true, false, eqb, List, [], ◌∷◌, ◌++◌, refl, sym, ap}
use Rattle.std.proofs.Common.{◌∙◌, subst, arith, append_assoc, length-append}
use Rattle.std.proofs.lemmas.Bool.{eqb-true}
use Rattle.std.proofs.lemmas.Bool.Decides.{nat_tests}
use Rattle.std.specs.Char.{to_ascii_uppercase, digit_value, is_ascii_digit, is_ascii_hexdigit}
use Rattle.std.specs.Str.Parse.{digits_value, digits_value_after}
use Rattle.std.specs.Float.Ieee.{Float, Format, round}
use Rattle.sf_float.specs.Printed.{in_case}
use Rattle.sf_float_read.specs.declared.item.reached.Radix.TheVariants.{Ten, Sixteen}
use Rattle.sf_float_read.specs.item.Sequences.{opens_exponent}
use Rattle.sf_float_read.specs.item.Parts.{AreDigits, IsSign, IsExponent, IsNumeral}
use Rattle.sf_float_read.specs.value.Values.{raised_by, lowered_by, IsHexValue}
use Rattle.sf_print.specs.texts.Text.{zeros}
use Rattle.sf_pair.proofs.ConversionLemmas.Bodies.{value-zeros}
use Rattle.sf_pair.proofs.ConversionLemmas.RealTexts.{case_append, case_length}

hex_value : (b : ℕ) → is_ascii_hexdigit b ≡ true → digit_value (to_ascii_uppercase b) ≡ digit_value b
hex_value b h = grind (arith, nat_tests)

hex_upper : (b : ℕ) → is_ascii_hexdigit b ≡ true → is_ascii_hexdigit (to_ascii_uppercase b) ≡ true
hex_upper b h = grind (arith, nat_tests)

same_decimal : (b : ℕ) → is_ascii_digit b ≡ true → to_ascii_uppercase b ≡ b
same_decimal b h = grind (arith, nat_tests)

-- ---- capital letters

case_all : (u : Bool) (ds : List ℕ) → AreDigits Sixteen ds → AreDigits Sixteen (in_case u ds)
case_all false ds h = h
case_all true [] h = tt
case_all true (d ∷ ds) h = (hex_upper d h.0, case_all true ds h.1)

case_decimal : (u : Bool) (ds : List ℕ) → AreDigits Ten ds → in_case u ds ≡ ds
case_decimal false ds h = refl
case_decimal true [] h = refl
case_decimal true (d ∷ ds) h = λ i. same_decimal d h.0 i ∷ case_decimal true ds h.1 i

case_value : (u : Bool) (value : ℕ) (ds : List ℕ) → AreDigits Sixteen ds
    → digits_value_after 16 value (in_case u ds) ≡ digits_value_after 16 value ds
case_value false value ds h = refl
case_value true value [] h = refl
case_value true value (d ∷ ds) h =
    case_value true (value * 16 + digit_value (to_ascii_uppercase d)) ds h.1
    ∙ ap (λ (v : ℕ). digits_value_after 16 (value * 16 + v) ds) (hex_value d h.0)

both_digits : (xs ys : List ℕ) → AreDigits Sixteen xs → AreDigits Sixteen ys → AreDigits Sixteen (xs ++ ys)
both_digits [] ys h k = k
both_digits (x ∷ xs) ys h k = (h.0, both_digits xs ys h.1 k)

upper_p : (l : ℕ) → opens_exponent Sixteen l ≡ true → opens_exponent Sixteen (to_ascii_uppercase l) ≡ true
upper_p l e = by (eqb l 112) refl
  where
    at : (k : ℕ) → l ≡ k → opens_exponent Sixteen (to_ascii_uppercase k) ≡ true → opens_exponent Sixteen (to_ascii_uppercase l) ≡ true
    at k is h = subst (λ (j : ℕ). opens_exponent Sixteen (to_ascii_uppercase j) ≡ true) (sym is) h

    by : (t : Bool) → eqb l 112 ≡ t → opens_exponent Sixteen (to_ascii_uppercase l) ≡ true
    by true is = at 112 (eqb-true l 112 is) refl
    by false is = at 80 (eqb-true l 80 (rw is at e)) refl

-- ---- zeros

zeros_all : (k : ℕ) (ds : List ℕ) → AreDigits Sixteen ds → AreDigits Sixteen (zeros k ++ ds)
zeros_all zero ds h = h
zeros_all (suc k) ds h = (refl, zeros_all k ds h)

-- ---- the exponent

record Same (u : Bool) (t : List ℕ) (r : (t ≡ []) ⊎ IsExponent Sixteen t) : Type 0 where
  exponent : (in_case u t ≡ []) ⊎ IsExponent Sixteen (in_case u t)
  up_same : raised_by (in_case u t) exponent ≡ raised_by t r
  down_same : lowered_by (in_case u t) exponent ≡ lowered_by t r

same_exponent : (u : Bool) (t : List ℕ) (r : (t ≡ []) ⊎ IsExponent Sixteen t) → Same u t r
same_exponent false t r = record { exponent = r; up_same = refl; down_same = refl }
same_exponent true t (inl empty) = record { exponent = inl (ap (in_case true) empty); up_same = refl; down_same = refl }
same_exponent true t (inr e) = record {
  exponent = inr (record {
    letter = to_ascii_uppercase e.letter;
    sign = e.sign;
    digits = e.digits;
    opens = upper_p e.letter e.opens;
    signed = e.signed;
    all = e.all;
    some = e.some;
    joined = ap (in_case true) e.joined ∙ ap (λ (t : List ℕ). to_ascii_uppercase e.letter ∷ t) (case_append true e.sign e.digits
        ∙ (λ i. sign_same e.sign e.signed i ++ case_decimal true e.digits e.all i));
  });
  up_same = refl;
  down_same = refl;
}
  where
    sign_same : (s : List ℕ) → IsSign s → in_case true s ≡ s
    sign_same s (inl is) = ap (in_case true) is ∙ sym is
    sign_same s (inr (inl is)) = ap (in_case true) is ∙ sym is
    sign_same s (inr (inr is)) = ap (in_case true) is ∙ sym is

-- ---- the numeral

module _ (u : Bool) (k : ℕ) (t : List ℕ) (n : IsNumeral Sixteen t) where
  e : Same u n.exponent n.raised
  e = same_exponent u n.exponent n.raised

  whole : List ℕ
  whole = zeros k ++ in_case u n.whole

  point_same : in_case u n.point ≡ n.point
  point_same = elim n.pointed [
    | inl none ↦ ap (in_case u) none.0 ∙ empty u ∙ sym none.0
    | inr one ↦ ap (in_case u) one ∙ dot u ∙ sym one
  ]
    where
      empty : (u : Bool) → in_case u [] ≡ []
      empty true = refl
      empty false = refl

      dot : (u : Bool) → in_case u (46 ∷ []) ≡ 46 ∷ []
      dot true = refl
      dot false = refl

  padded : IsNumeral Sixteen (zeros k ++ in_case u t)
  unfolding whole e
  padded = record {
    whole = whole;
    point = n.point;
    fraction = in_case u n.fraction;
    exponent = in_case u n.exponent;
    whole_digits = zeros_all k (in_case u n.whole) (case_all u n.whole n.whole_digits);
    fraction_digits = case_all u n.fraction n.fraction_digits;
    some = omega (arith, length-append (zeros k) (in_case u n.whole), case_length u n.whole, case_length u n.fraction, n.some);
    pointed = elim n.pointed [
      | inl none ↦ inl (none.0, ap (in_case u) none.1 ∙ empty u)
      | inr one ↦ inr one
    ];
    raised = e.exponent;
    joined = ap (λ (x : List ℕ). zeros k ++ in_case u x) n.joined
        ∙ ap (λ (x : List ℕ). zeros k ++ x) (case_append u n.whole (n.point ++ (n.fraction ++ n.exponent))
        ∙ ap (λ (x : List ℕ). in_case u n.whole ++ x) (case_append u n.point (n.fraction ++ n.exponent)
        ∙ (λ i. point_same i ++ case_append u n.fraction n.exponent i)))
        ∙ sym (append_assoc (zeros k) (in_case u n.whole) (n.point ++ (in_case u n.fraction ++ in_case u n.exponent)));
  }
    where
      empty : (u : Bool) → in_case u [] ≡ []
      empty true = refl
      empty false = refl

  value_same : digits_value 16 ((zeros k ++ in_case u n.whole) ++ in_case u n.fraction) ≡ digits_value 16 (n.whole ++ n.fraction)
  value_same =
      ap (digits_value 16) (append_assoc (zeros k) (in_case u n.whole) (in_case u n.fraction))
      ∙ value-zeros 16 k (in_case u n.whole ++ in_case u n.fraction)
      ∙ ap (digits_value 16) (sym (case_append u n.whole n.fraction))
      ∙ case_value u 0 (n.whole ++ n.fraction) (both_digits n.whole n.fraction n.whole_digits n.fraction_digits)

pub hex_padded : (u : Bool) (k : ℕ) (f : Format) (negative : Bool) (t : List ℕ) (x : Float) → IsHexValue f negative t x
    → IsHexValue f negative (zeros k ++ in_case u t) x
unfolding padded whole e
hex_padded u k f negative t x v =
    let n = v.0 in
    let s = same_exponent u n.exponent n.raised in (
      padded u k t n,
      v.1 ∙ (λ i. round f negative (sym (value_same u k t n) i * 2 ^ sym s.up_same i)
          (2 ^ (4 * sym (case_length u n.fraction) i + sym s.down_same i))),
    )
