-- Zeros before a decimal numeral, capital letters and a plus don't change what it is read as.
use Rattle.std.proofs.Common.{◌≡◌, ◌⊎◌, inl, inr, ℕ, zero, suc, ◌*◌, ◌^◌, ◌<◌, Bool, true, false, cond, eqb, List, [], ◌∷◌, ◌++◌, length}
use Rattle.std.proofs.Common.{Some, refl, sym, ap, ◌∙◌, subst, arith, append_assoc, length-append}
use Rattle.std.proofs.lemmas.Bool.{eqb-true}
use Rattle.std.proofs.lemmas.Bool.Decides.{nat_tests}
use Rattle.std.proofs.lemmas.Str.Parse.{digit_from_value}
use Rattle.std.specs.Char.{to_ascii_uppercase, digit_value}
use Rattle.std.specs.Fmt.{sign_text}
use Rattle.std.specs.Str.Parse.{AllDigits, digits_value}
use Rattle.std.specs.Float.Ieee.{Float, Format, round}
use Rattle.std.specs.Float.Numeral.{Parts, nearest_float, IsWellFormed, tens_up, tens_down}
use Rattle.std.specs.Float.Parse.{parse_float}
use Rattle.ryu.specs.Plain.{exponent_with, text_with}
use Rattle.ryu.proofs.Plus.{parse_float-text_with}
use Rattle.sf_float.specs.Printed.{in_case}
use Rattle.sf_float_read.specs.declared.item.reached.Radix.TheVariants.{Ten}
use Rattle.sf_float_read.specs.item.Parts.{AreDigits, IsSign, IsExponent, IsNumeral}
use Rattle.sf_float_read.specs.value.Values.{is_minus}
use Rattle.sf_print.specs.texts.Text.{zeros}
use Rattle.sf_pair.proofs.ConversionLemmas.Bodies.{value-zeros}
use Rattle.sf_pair.proofs.ConversionLemmas.RealTexts.{case_append}
use Rattle.sf_pair.proofs.ConversionLemmas.ParsedNumerals.{digit_is, Raised, is_e, made, written, parsed}

-- ---- capital letters

same_digit : (d : ℕ) → digit_value d < 10 → to_ascii_uppercase d ≡ d
same_digit d h = let r = digit_from_value d h in let k : d < 97 = omega arith in grind (arith, nat_tests)

pub case_digits : (u : Bool) (ds : List ℕ) → AllDigits 10 ds → in_case u ds ≡ ds
case_digits false ds h = refl
case_digits true [] h = refl
case_digits true (d ∷ ds) h = λ i. same_digit d h.0 i ∷ case_digits true ds h.1 i

upper_e : (l : ℕ) → is_e l ≡ true → is_e (to_ascii_uppercase l) ≡ true
upper_e l e = by (eqb l 101) refl
  where
    at : (k : ℕ) → l ≡ k → is_e (to_ascii_uppercase k) ≡ true → is_e (to_ascii_uppercase l) ≡ true
    at k is h = subst (λ (j : ℕ). is_e (to_ascii_uppercase j) ≡ true) (sym is) h

    by : (t : Bool) → eqb l 101 ≡ t → is_e (to_ascii_uppercase l) ≡ true
    by true is = at 101 (eqb-true l 101 is) refl
    by false is = at 69 (eqb-true l 69 (rw is at e)) refl

case_raised : (u : Bool) (x : List ℕ) (negative : Bool) (exponent : List ℕ) → Raised x negative exponent
    → Raised (in_case u x) negative exponent
case_raised false x negative exponent r = r
case_raised true x negative exponent Raised.none = Raised.none
case_raised true x negative exponent (Raised.bare l d ds e h) =
    subst (λ (t : List ℕ). Raised (to_ascii_uppercase l ∷ t) false (d ∷ ds)) (sym (case_digits true (d ∷ ds) h))
    (Raised.bare (to_ascii_uppercase l) d ds (upper_e l e) h)
case_raised true x negative exponent (Raised.up l d ds e h) =
    subst (λ (t : List ℕ). Raised (to_ascii_uppercase l ∷ 43 ∷ t) false (d ∷ ds)) (sym (case_digits true (d ∷ ds) h))
    (Raised.up (to_ascii_uppercase l) d ds (upper_e l e) h)
case_raised true x negative exponent (Raised.down l d ds e h) =
    subst (λ (t : List ℕ). Raised (to_ascii_uppercase l ∷ 45 ∷ t) true (d ∷ ds)) (sym (case_digits true (d ∷ ds) h))
    (Raised.down (to_ascii_uppercase l) d ds (upper_e l e) h)

with_raised : (negative : Bool) (exponent : List ℕ) → AllDigits 10 exponent → (exponent ≡ [] → negative ≡ false)
    → Raised (exponent_with true negative exponent) negative exponent
with_raised negative [] h none = subst (λ (t : Bool). Raised [] t []) (sym (none refl)) Raised.none
with_raised true (d ∷ ds) h none = Raised.down 101 d ds refl h
with_raised false (d ∷ ds) h none = Raised.up 101 d ds refl h

-- ---- zeros

zeros_digits : (k : ℕ) (ds : List ℕ) → AllDigits 10 ds → AllDigits 10 (zeros k ++ ds)
zeros_digits zero ds h = h
zeros_digits (suc k) ds h = (omega arith, zeros_digits k ds h)

-- ---- the text

abbrev padded_text : ℕ → Bool → Parts → List ℕ
padded_text k u p =
    written (zeros k ++ p.whole) p.point p.fraction (in_case u (exponent_with true p.exponent_negative p.exponent))

padded_is : (k : ℕ) (u : Bool) (p : Parts) → IsWellFormed p → zeros k ++ in_case u (text_with true p) ≡ padded_text k u p
padded_is k u p w =
    let x : List ℕ = exponent_with true p.exponent_negative p.exponent in
    ap (λ (t : List ℕ). zeros k ++ t) (case_append u p.whole (cond p.point (46 ∷ p.fraction) [] ++ x)
    ∙ (λ i. case_digits u p.whole w.whole_digits i ++ case_append u (cond p.point (46 ∷ p.fraction) []) x i)
    ∙ ap (λ (t : List ℕ). p.whole ++ (t ++ in_case u x)) (point_same u p.point))
    ∙ sym (append_assoc (zeros k) p.whole (cond p.point (46 ∷ p.fraction) [] ++ in_case u x))
  where
    point_same : (u point : Bool) → in_case u (cond point (46 ∷ p.fraction) []) ≡ cond point (46 ∷ p.fraction) []
    point_same true true = ap (λ (t : List ℕ). 46 ∷ t) (case_digits true p.fraction w.fraction_digits)
    point_same true false = refl
    point_same false point = refl

are_digits : (ds : List ℕ) → AllDigits 10 ds → AreDigits Ten ds
are_digits [] h = tt
are_digits (d ∷ ds) h = (digit_is d h.0, are_digits ds h.1)

raised_part : (x : List ℕ) (negative : Bool) (exponent : List ℕ) → Raised x negative exponent → (x ≡ []) ⊎ IsExponent Ten x
raised_part x negative exponent Raised.none = inl refl
raised_part x negative exponent (Raised.bare l d ds e h) = inr (record {
  letter = l;
  sign = [];
  digits = d ∷ ds;
  opens = e;
  signed = inl refl;
  all = are_digits (d ∷ ds) h;
  some = omega arith;
  joined = refl;
})
raised_part x negative exponent (Raised.up l d ds e h) = inr (record {
  letter = l;
  sign = 43 ∷ [];
  digits = d ∷ ds;
  opens = e;
  signed = inr (inl refl);
  all = are_digits (d ∷ ds) h;
  some = omega arith;
  joined = refl;
})
raised_part x negative exponent (Raised.down l d ds e h) = inr (record {
  letter = l;
  sign = 45 ∷ [];
  digits = d ∷ ds;
  opens = e;
  signed = inr (inr refl);
  all = are_digits (d ∷ ds) h;
  some = omega arith;
  joined = refl;
})

numeral_of : (whole fraction x exponent : List ℕ) (point negative : Bool) → AllDigits 10 whole → AllDigits 10 fraction
    → 0 < length whole → (point ≡ false → fraction ≡ []) → Raised x negative exponent → IsNumeral Ten (written whole point fraction x)
numeral_of whole fraction x exponent point negative w f some bare r = by point bare
  where
    by : (point : Bool) → (point ≡ false → fraction ≡ []) → IsNumeral Ten (written whole point fraction x)
    by true bare = record {
      whole = whole;
      point = 46 ∷ [];
      fraction = fraction;
      exponent = x;
      whole_digits = are_digits whole w;
      fraction_digits = are_digits fraction f;
      some = omega (arith, some);
      pointed = inr refl;
      raised = raised_part x negative exponent r;
      joined = refl;
    }
    by false bare = record {
      whole = whole;
      point = [];
      fraction = fraction;
      exponent = x;
      whole_digits = are_digits whole w;
      fraction_digits = are_digits fraction f;
      some = omega (arith, some);
      pointed = inl (refl, bare refl);
      raised = raised_part x negative exponent r;
      joined = ap (λ (t : List ℕ). whole ++ (t ++ x)) (sym (bare refl));
    }

-- what is printed of a float, without a sign, and is read back after one
pub record Decimal (f : Format) (negative : Bool) (t : List ℕ) (y : Float) : Type 0 where
  pub parts : Parts
  pub formed : IsWellFormed parts
  pub some : 0 < length parts.whole
  pub is : t ≡ text_with true parts
  pub back : parse_float f (sign_text negative ++ text_with true parts) ≡ Some y

some_same : {A : Type 0} (a b : A) → Some a ≡ Some b → a ≡ b
some_same a b e = cc

module _ (f : Format) (negative : Bool) (t : List ℕ) (y : Float) (d : Decimal f negative t y) (u : Bool) (k : ℕ) where
  abbrev whole : List ℕ
  whole = zeros k ++ d.parts.whole

  abbrev raised : List ℕ
  raised = in_case u (exponent_with true d.parts.exponent_negative d.parts.exponent)

  whole_digits : AllDigits 10 whole
  whole_digits = zeros_digits k d.parts.whole d.formed.whole_digits

  whole_some : 0 < length whole
  whole_some = omega (arith, length-append (zeros k) d.parts.whole, d.some)

  raised_is : Raised raised d.parts.exponent_negative d.parts.exponent
  raised_is = case_raised u (exponent_with true d.parts.exponent_negative d.parts.exponent) d.parts.exponent_negative d.parts.exponent
      (with_raised d.parts.exponent_negative d.parts.exponent d.formed.exponent_digits d.formed.no_exponent)

  text_same : zeros k ++ in_case u t ≡ written whole d.parts.point d.parts.fraction raised
  text_same = ap (λ (t : List ℕ). zeros k ++ in_case u t) d.is ∙ padded_is k u d.parts d.formed

  pub padded_numeral : IsNumeral Ten (zeros k ++ in_case u t)
  padded_numeral = subst (IsNumeral Ten) (sym text_same)
      (numeral_of whole d.parts.fraction raised d.parts.exponent d.parts.point d.parts.exponent_negative whole_digits
      d.formed.fraction_digits whole_some d.formed.no_point raised_is)

  same_number : (n : ℕ) → nearest_float f negative
      (made whole d.parts.point d.parts.fraction d.parts.exponent_negative d.parts.exponent n) ≡ nearest_float f negative d.parts
  same_number n =
      ap (λ (v : ℕ). round f negative (v * 10 ^ tens_up d.parts) (10 ^ tens_down d.parts))
      (ap (digits_value 10) (append_assoc (zeros k) d.parts.whole d.parts.fraction)
      ∙ value-zeros 10 k (d.parts.whole ++ d.parts.fraction))

  pub padded_back : (sign : List ℕ) → IsSign sign → is_minus sign ≡ negative
      → parse_float f (sign ++ (zeros k ++ in_case u t)) ≡ Some y
  padded_back sign signed is =
      let n : ℕ = length (written whole d.parts.point d.parts.fraction raised) in
      ap (λ (t : List ℕ). parse_float f (sign ++ t)) text_same
      ∙ parsed f sign whole d.parts.fraction raised d.parts.exponent d.parts.point d.parts.exponent_negative signed whole_digits
      d.formed.fraction_digits whole_some d.formed.no_point raised_is
      ∙ ap (λ (s : Bool). Some (nearest_float f s
      (made whole d.parts.point d.parts.fraction d.parts.exponent_negative d.parts.exponent n))) is
      ∙ ap Some (same_number n)
      ∙ sym (parse_float-text_with f negative d.parts d.formed d.some) ∙ d.back
