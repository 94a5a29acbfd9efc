-- What is printed of 0 is read as 0, whatever the conversion.
use Rattle.std.proofs.Common.{◌≡◌, ℕ, zero, suc, ◌+◌, ◌-◌, ◌*◌, ◌^◌, ◌<◌, Bool, true, false, cond, ◌||◌, nat_lt, List, [], ◌∷◌, ◌++◌, max}
use Rattle.std.proofs.Common.{Option, Some, None, unwrap_or, refl, sym, ap, subst, ◌∙◌, arith, append_assoc, append-nil}
use Rattle.std.proofs.Math.Nat.{zero-mul, zero-div}
use Rattle.std.proofs.lemmas.List.{replicate-append-replicate}
use Rattle.std.specs.Float.Ieee.Nearest.{closest}
use Rattle.sf_float.specs.declared.text.Style.{Style}
use Rattle.sf_float.specs.declared.text.Style.TheVariants.{Fixed, Exponent, General, Hexadecimal}
use Rattle.sf_float.specs.Texts.{fixed_digits, point_text}
use Rattle.sf_float.specs.Hexadecimal.{hex_digits, hex_text, binary_power}
use Rattle.sf_float.specs.Computed.{needed_of, kept_of, cut_to, power_of, number_of, fixed_of, exponent_of, general_of, two_power_of}
use Rattle.sf_float.specs.Computed.{binary_number_of, hex_numeral_of, binary_exponent_of, hexadecimal_of, digits_text}
use Rattle.sf_print.specs.texts.Text.{zeros}
use Rattle.sf_pair.proofs.ConversionLemmas.RealTexts.{exponent_text_is}
use Rattle.sf_pair.proofs.ConversionLemmas.RealSizes.{zero_number, zero_scaled, zero_count, needed_none, power_zero, plain_zero}
use Rattle.sf_pair.proofs.ConversionLemmas.RealSizes.{zero_binary}
use Rattle.sf_pair.proofs.ConversionLemmas.RealSizes.{some_digit}

-- ---- the digits of 0

fixed_zeros : (k : ℕ) → fixed_digits k 0 ≡ zeros k
fixed_zeros zero = refl
fixed_zeros (suc k) = ap (λ (t : List ℕ). t ++ 48 ∷ []) (fixed_zeros k) ∙ replicate-append-replicate k 1 48
    ∙ ap zeros {x = k + 1} {y = suc k} (omega arith)

hex_zeros : (k : ℕ) → hex_digits k 0 ≡ zeros k
hex_zeros zero = refl
hex_zeros (suc k) = ap (λ (t : List ℕ). t ++ 48 ∷ []) (hex_zeros k) ∙ replicate-append-replicate k 1 48
    ∙ ap zeros {x = k + 1} {y = suc k} (omega arith)

-- a 0, perhaps a point and more of them, and an exponent or none
pub record Zeros (raw tail : List ℕ) : Type 0 where
  pub pointed : Bool
  pub many : ℕ
  pub is : raw ≡ 48 ∷ (cond pointed (46 ∷ zeros many) [] ++ tail)

abbrev pub exponent_tail : List ℕ
exponent_tail = 101 ∷ 43 ∷ 48 ∷ 48 ∷ []

abbrev pub binary_tail : List ℕ
binary_tail = 112 ∷ 43 ∷ 48 ∷ []

point_zeros : (alt : Bool) (d : ℕ) → point_text alt d 0 ≡ cond (nat_lt 0 d || alt) (46 ∷ zeros d) []
point_zeros alt d = ap (λ (t : List ℕ). cond (nat_lt 0 d || alt) (46 ∷ t) []) (fixed_zeros d)

fixed_is_zeros : (alt : Bool) (d n : ℕ) → n ≡ 0 → Zeros (fixed_of alt d n) []
fixed_is_zeros alt d n e = record {
  pointed = nat_lt 0 d || alt;
  many = d;
  is = ap (fixed_of alt d) e
      ∙ (λ i. fixed_digits (zero_count d i) (zero-div (10 ^ d) i) ++ point_zeros alt d i)
      ∙ ap (λ (t : List ℕ). 48 ∷ t) (sym (append-nil (cond (nat_lt 0 d || alt) (46 ∷ zeros d) [])));
}

exponent_is_zeros : (alt : Bool) (d n power : ℕ) → n ≡ 0 → power ≡ 400 → Zeros (exponent_of alt d n power) exponent_tail
exponent_is_zeros alt d n power e f = record {
  pointed = nat_lt 0 d || alt;
  many = d;
  is = (λ i. exponent_of alt d (e i) (f i)) ∙ exponent_text_is alt d 0 400
      ∙ (λ i. (fixed_digits 1 (zero-div (10 ^ d) i) ++ (point_zeros alt d i ++ 101 ∷ [])) ++ 43 ∷ 48 ∷ 48 ∷ [])
      ∙ ap (λ (t : List ℕ). 48 ∷ t) (append_assoc (cond (nat_lt 0 d || alt) (46 ∷ zeros d) []) (101 ∷ []) (43 ∷ 48 ∷ 48 ∷ []));
}

general_is_zeros : (alt : Bool) (k n power : ℕ) → 0 < k → n ≡ 0 → power ≡ 400 → Zeros (general_of alt k n power) []
general_is_zeros alt k n power some e f =
    let z = fixed_is_zeros alt (kept_of 10 alt d 0) (cut_to 10 d 0 (kept_of 10 alt d 0)) (zero-div (10 ^ (d - kept_of 10 alt d 0))) in
    record {
      pointed = z.pointed;
      many = z.many;
      is = (λ i. general_of alt k (e i) (f i)) ∙ ap (λ (t : Bool). cond t
          (fixed_of alt (kept_of 10 alt d 0) (cut_to 10 d 0 (kept_of 10 alt d 0))) other) (plain_zero k some) ∙ z.is;
    }
  where
    d : ℕ
    d = k + 399 - 400

    other : List ℕ
    other = exponent_of alt (kept_of 10 alt (k - 1) 0) (cut_to 10 (k - 1) 0 (kept_of 10 alt (k - 1) 0)) 400

hex_is_zeros : (alt : Bool) (d n : ℕ) → n ≡ 0 → Zeros (hex_text alt d n) []
hex_is_zeros alt d n e = record {
  pointed = nat_lt 0 d || alt;
  many = d;
  is = ap (hex_text alt d) e
      ∙ (λ i. hex_digits 1 (zero-div (16 ^ d) i) ++ cond (nat_lt 0 d || alt) (46 ∷ hex_zeros d i) [])
      ∙ ap (λ (t : List ℕ). 48 ∷ t) (sym (append-nil (cond (nat_lt 0 d || alt) (46 ∷ zeros d) [])));
}

closest_zero : (k : ℕ) → closest (0 * k) (2 ^ 52) ≡ 0
closest_zero k = ap (λ (n : ℕ). closest n (2 ^ 52)) (zero-mul k)

numeral_is_zeros : (alt : Bool) (precision : Option ℕ) (m : ℕ) → m ≡ 0 → Zeros (hex_numeral_of alt precision m) []
numeral_is_zeros alt None m e =
    subst (λ (n : ℕ). Zeros (hex_numeral_of alt None n) []) (sym e)
    (hex_is_zeros alt (needed_of 16 13 0) (cut_to 16 13 0 (needed_of 16 13 0)) (zero-div (16 ^ (13 - needed_of 16 13 0))))
numeral_is_zeros alt (Some d) m e =
    subst (λ (n : ℕ). Zeros (hex_numeral_of alt (Some d) n) []) (sym e)
    (hex_is_zeros alt d (closest (0 * 16 ^ d) (2 ^ 52)) (closest_zero (16 ^ d)))

tail_added : (raw tail : List ℕ) → Zeros raw [] → Zeros (raw ++ tail) tail
tail_added raw tail z = record {
  pointed = z.pointed;
  many = z.many;
  is = ap (λ (t : List ℕ). t ++ tail) z.is
      ∙ ap (λ (t : List ℕ). 48 ∷ (t ++ tail)) (append-nil (cond z.pointed (46 ∷ zeros z.many) []));
}

binary_exponent_zero : (power : ℕ) → power ≡ 1022 → binary_exponent_of power ≡ binary_tail
binary_exponent_zero power e = ap binary_exponent_of e ∙ ap (λ (k : ℕ). 112 ∷ 43 ∷ fixed_digits k 0) (zero_count 0)

hexadecimal_is_zeros : (alt : Bool) (precision : Option ℕ) → Zeros (hexadecimal_of alt precision zero_number) binary_tail
hexadecimal_is_zeros alt precision =
    let m : ℕ = binary_number_of zero_number in
    let p : ℕ = two_power_of zero_number in
    let none : binary_power m p ≡ 1022 = ap (λ (m : ℕ). binary_power m p) zero_binary in
    subst (λ (t : List ℕ). Zeros (hex_numeral_of alt precision m ++ t) binary_tail)
    (sym (binary_exponent_zero (binary_power m p) none))
    (tail_added (hex_numeral_of alt precision m) binary_tail (numeral_is_zeros alt precision m zero_binary))

abbrev pub tail_of : Style → List ℕ
tail_of Fixed = []
tail_of Exponent = exponent_tail
tail_of General = []
tail_of Hexadecimal = binary_tail

pub digits_are_zeros : (s : Style) (alt : Bool) (precision : Option ℕ) → Zeros (digits_text s alt precision zero_number) (tail_of s)
digits_are_zeros Fixed alt precision = let d = unwrap_or precision 6 in fixed_is_zeros alt d _ (zero_scaled d)
digits_are_zeros Exponent alt precision =
    let d = unwrap_or precision 6 in
    let z = power_zero zero_number (d + 1) refl in
    exponent_is_zeros alt d (number_of zero_number (d + 1)) (power_of zero_number (d + 1)) z.1 z.0
digits_are_zeros General alt precision =
    let k = max (unwrap_or precision 6) 1 in
    let z = power_zero zero_number (k - 1 + 1) refl in
    general_is_zeros alt k (number_of zero_number (k - 1 + 1)) (power_of zero_number (k - 1 + 1)) (some_digit (unwrap_or precision 6)) z.1
    z.0
digits_are_zeros Hexadecimal alt precision = hexadecimal_is_zeros alt precision

-- where a point stands
pub fixed_pointed : (alt : Bool) (precision : Option ℕ)
    → (digits_are_zeros Fixed alt precision).pointed ≡ (nat_lt 0 (unwrap_or precision 6) || alt)
unfolding digits_are_zeros fixed_is_zeros
fixed_pointed alt precision = refl

pub general_pointed : (alt : Bool) (precision : Option ℕ) → (digits_are_zeros General alt precision).pointed ≡ alt
unfolding digits_are_zeros general_is_zeros fixed_is_zeros
general_pointed true precision = by (nat_lt 0 (kept_of 10 true (max (unwrap_or precision 6) 1 + 399 - 400) 0))
  where
    by : (t : Bool) → (t || true) ≡ true
    by true = refl
    by false = refl
general_pointed false precision =
    ap (λ (k : ℕ). nat_lt 0 k || false) (needed_none 10 (max (unwrap_or precision 6) 1 + 399 - 400))
