-- What is stored of a decimal numeral of which the digits are known.
use Rattle.std.proofs.Common.{◌≡◌, ℕ, ◌+◌, ◌*◌, ◌^◌, Bool, true, false, List, [], ◌∷◌, ◌++◌, length, Option, Some, inl, inr, refl, sym, ap}
use Rattle.std.proofs.Common.{◌∙◌, arith, append-nil}
use Rattle.std.specs.Fmt.{sign_text}
use Rattle.std.specs.Str.Parse.{AllDigits, digits_value}
use Rattle.std.specs.Float.Ieee.{Float, Format, round}
use Rattle.std.specs.Float.Numeral.{Parts, text_of, IsWellFormed, nearest_float}
use Rattle.std.specs.Float.Parse.{parse_float}
use Rattle.std.proofs.lemmas.Float.Parse.{parse_float-text_of}
use Rattle.sf_float_read.specs.declared.item.reached.Radix.TheVariants.{Ten}
use Rattle.sf_float_read.specs.item.Decimals.{IsDecimal}
use Rattle.sf_float_read.specs.item.Parts.{AreDigits, IsSign, IsNumeral}
use Rattle.sf_float_read.proofs.ItemLemmas.Decimals.{is_digit}
use Rattle.sf_float_read.specs.value.Values.{IsStored, stored}

pub are_digits : (ds : List ℕ) → AllDigits 10 ds → AreDigits Ten ds
are_digits [] all = tt
are_digits (d ∷ ds) all = (is_digit d all.0, are_digits ds all.1)

pub sign_is : (negative : Bool) → IsSign (sign_text negative)
sign_is true = inr (inr refl)
sign_is false = inl refl

module _ (item : List ℕ) (negative : Bool) (digits places : ℕ) (d : IsDecimal item negative digits places) where
  parts : ℕ → Parts
  parts len = record {
    whole = d.whole;
    point = true;
    fraction = d.fraction;
    exponent_negative = false;
    exponent = [];
    len = len;
  }

  own : Parts
  own = parts (length (text_of (parts 0)))

  formed : IsWellFormed own
  unfolding own parts
  formed = record {
    whole_digits = d.whole_digits;
    fraction_digits = d.fraction_digits;
    exponent_digits = tt;
    no_point = λ h. absurd cc;
    no_exponent = λ h. refl;
    len_is = refl;
  }

  text_is : item ≡ sign_text negative ++ text_of own
  unfolding own parts
  text_is = d.joined ∙ ap (λ (t : List ℕ). sign_text negative ++ (d.whole ++ 46 ∷ t)) (sym (append-nil d.fraction))

  nearest_is : (f : Format) → nearest_float f negative own ≡ round f negative digits (10 ^ places)
  unfolding own parts
  nearest_is f =
      let down : length d.fraction + 0 ≡ places = omega (arith, d.after) in
      let all : digits_value 10 (d.whole ++ d.fraction) * 10 ^ 0 ≡ digits = omega (arith, d.number) in
      λ i. round f negative (all i) (10 ^ down i)

  parsed : (f : Format) → parse_float f item ≡ Some (round f negative digits (10 ^ places))
  unfolding own parts
  parsed f =
      ap (parse_float f) text_is ∙ parse_float-text_of f negative own formed d.some ∙ ap Some (nearest_is f)

  numeral : IsNumeral Ten (d.whole ++ 46 ∷ d.fraction)
  numeral = record {
    whole = d.whole;
    point = 46 ∷ [];
    fraction = d.fraction;
    exponent = [];
    whole_digits = are_digits d.whole d.whole_digits;
    fraction_digits = are_digits d.fraction d.fraction_digits;
    some = omega (arith, d.some);
    pointed = inr refl;
    raised = inl refl;
    joined = ap (λ (t : List ℕ). d.whole ++ 46 ∷ t) (sym (append-nil d.fraction));
  }

  pub decimal_stored : (f : Format) (x : Float) (bits : Option ℕ) → x ≡ round f negative digits (10 ^ places)
      → bits ≡ stored f x → IsStored f item bits
  decimal_stored f x bits is same =
      (sign_text negative, d.whole ++ 46 ∷ d.fraction, sign_is negative, d.joined, inl (numeral, (x, parsed f ∙ ap Some (sym is), same)))
