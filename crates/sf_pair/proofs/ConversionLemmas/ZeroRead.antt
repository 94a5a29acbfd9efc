-- How far what is printed of 0 is read, and what is stored of it.
use Rattle.std.proofs.Common.{◌≡◌, ◌⊎◌, inl, inr, ℕ, zero, suc, Bool, true, false, cond, List, [], ◌∷◌, ◌++◌, map, Option, Some, refl, ap}
use Rattle.std.proofs.Common.{◌∙◌}
use Rattle.std.specs.Char.{to_ascii_uppercase}
use Rattle.sf_float.specs.declared.text.Style.{Style}
use Rattle.sf_float.specs.declared.text.Style.TheVariants.{Fixed, Exponent, General, Hexadecimal}
use Rattle.sf_float.specs.declared.text.FloatConv.{FloatConv}
use Rattle.sf_float.specs.Printed.{in_case, is_hexadecimal, inner_zeros}
use Rattle.sf_float.specs.Computed.{digits_text}
use Rattle.sf_float_read.specs.declared.item.reached.Radix.TheVariants.{Ten, Sixteen}
use Rattle.sf_float_read.specs.declared.item.reached.Reached.{Reached}
use Rattle.sf_float_read.specs.declared.item.reached.Reached.TheVariants as at
use Rattle.sf_float_read.specs.item.Tests.{next, read, is_whole_at, is_float}
use Rattle.sf_print.specs.texts.Text.{zeros}
use Rattle.sf_pair.proofs.ConversionLemmas.RealTexts.{size_of, bare_sign, mark_bytes, after_sign, body, mark_is}
use Rattle.sf_pair.proofs.ConversionLemmas.RealSizes.{zero_number, zero_finite, zero_positive}
use Rattle.sf_pair.proofs.ConversionLemmas.RealZero.{Zeros, tail_of, digits_are_zeros}

-- ---- capital letters

upper_zeros : (k : ℕ) → map to_ascii_uppercase (zeros k) ≡ zeros k
upper_zeros zero = refl
upper_zeros (suc k) = ap (λ (t : List ℕ). 48 ∷ t) (upper_zeros k)

case_zeros : (u p : Bool) (k : ℕ) (tail : List ℕ)
    → in_case u (48 ∷ (cond p (46 ∷ zeros k) [] ++ tail)) ≡ 48 ∷ (cond p (46 ∷ zeros k) [] ++ in_case u tail)
case_zeros false p k tail = refl
case_zeros true false k tail = refl
case_zeros true true k tail = ap (λ (t : List ℕ). 48 ∷ 46 ∷ t) (more k)
  where
    more : (k : ℕ) → map to_ascii_uppercase (zeros k ++ tail) ≡ zeros k ++ map to_ascii_uppercase tail
    more zero = refl
    more (suc k) = ap (λ (t : List ℕ). 48 ∷ t) (more k)

pub zeros_front : (k : ℕ) (xs : List ℕ) → zeros k ++ 48 ∷ xs ≡ 48 ∷ (zeros k ++ xs)
zeros_front zero xs = refl
zeros_front (suc k) xs = ap (λ (t : List ℕ). 48 ∷ t) (zeros_front k xs)

-- ---- how far it is read

stays : (r : Reached) → next r 48 ≡ Some r → (k : ℕ) (xs : List ℕ) → read (Some r) (zeros k ++ xs) ≡ read (Some r) xs
stays r e zero xs = refl
stays r e (suc k) xs = ap (λ (o : Option Reached). read o (zeros k ++ xs)) e ∙ stays r e k xs

-- a lone 0, or more of them
abbrev pub whole_place : ℕ → Reached
whole_place zero = at.Zero
whole_place (suc k) = at.Whole Ten

begun_zero : (p : Bool) (t : List ℕ) → read (Some at.Start) (cond p (43 ∷ []) [] ++ 48 ∷ t) ≡ read (Some at.Zero) t
begun_zero true t = refl
begun_zero false t = refl

more_zeros : (k : ℕ) (xs : List ℕ) → read (Some at.Zero) (zeros k ++ xs) ≡ read (Some (whole_place k)) xs
more_zeros zero xs = refl
more_zeros (suc k) xs = stays (at.Whole Ten) refl k xs

decimal_point : (p : Bool) (m k : ℕ) (tail : List ℕ) → read (Some (whole_place m)) (cond p (46 ∷ zeros k) [] ++ tail)
    ≡ read (Some (cond p (at.Fraction Ten) (whole_place m))) tail
decimal_point false m k tail = refl
decimal_point true zero k tail = stays (at.Fraction Ten) refl k tail
decimal_point true (suc m) k tail = stays (at.Fraction Ten) refl k tail

hex_point : (p : Bool) (k : ℕ) (tail : List ℕ) → read (Some (at.Whole Sixteen)) (cond p (46 ∷ zeros k) [] ++ tail)
    ≡ read (Some (cond p (at.Fraction Sixteen) (at.Whole Sixteen))) tail
hex_point false k tail = refl
hex_point true k tail = stays (at.Fraction Sixteen) refl k tail

hex_marked : (u : Bool) (t : List ℕ) → read (Some at.Zero) (cond u 88 120 ∷ t) ≡ read (Some at.Prefix) t
hex_marked true t = refl
hex_marked false t = refl

-- from each place that such digits end at
exponent_end : (u p : Bool) (m : ℕ) → read (Some (cond p (at.Fraction Ten) (whole_place m))) (in_case u (101 ∷ 43 ∷ 48 ∷ 48 ∷ []))
    ≡ Some at.Exponent
exponent_end true true m = refl
exponent_end false true m = refl
exponent_end true false zero = refl
exponent_end true false (suc m) = refl
exponent_end false false zero = refl
exponent_end false false (suc m) = refl

binary_end : (u p : Bool) → read (Some (cond p (at.Fraction Sixteen) (at.Whole Sixteen))) (in_case u (112 ∷ 43 ∷ 48 ∷ []))
    ≡ Some at.Exponent
binary_end true true = refl
binary_end true false = refl
binary_end false true = refl
binary_end false false = refl

no_tail : (u : Bool) (r : Reached) → read (Some r) (in_case u []) ≡ Some r
no_tail true r = refl
no_tail false r = refl

module _ (c : FloatConv) where
  abbrev inner : ℕ
  inner = inner_zeros c zero_number (size_of c zero_number)

  pub sign_is_plus : bare_sign c zero_number ≡ cond c.plus (43 ∷ []) []
  sign_is_plus = ap (λ (n : Bool). cond n (45 ∷ []) (cond c.plus (43 ∷ []) [])) zero_positive

  pub size_is : (s : Style) → c.style ≡ s → (z : Zeros (digits_text s c.alt c.precision zero_number) (tail_of s))
      → size_of c zero_number ≡ 48 ∷ (cond z.pointed (46 ∷ zeros z.many) [] ++ in_case c.upper (tail_of s))
  size_is s e z = ap (λ (s : Style). in_case c.upper (digits_text s c.alt c.precision zero_number)) e ∙ ap (in_case c.upper) z.is
      ∙ case_zeros c.upper z.pointed z.many (tail_of s)

  -- what is read, after the sign
  pub decimal_after : is_hexadecimal c.style ≡ false → after_sign c zero_number ≡ zeros inner ++ size_of c zero_number
  decimal_after other = ap (λ (m : List ℕ). m ++ (zeros (inner_zeros c zero_number (size_of c zero_number)) ++ size_of c zero_number))
      (mark_is c zero_number zero_finite ∙ ap (λ (t : Bool). cond t (mark_bytes c) []) other)

  pub hex_after : is_hexadecimal c.style ≡ true → after_sign c zero_number ≡ mark_bytes c ++ (zeros inner ++ size_of c zero_number)
  hex_after other = ap (λ (m : List ℕ). m ++ (zeros (inner_zeros c zero_number (size_of c zero_number)) ++ size_of c zero_number))
      (mark_is c zero_number zero_finite ∙ ap (λ (t : Bool). cond t (mark_bytes c) []) other)

  decimal_is_read : (s : Style) → c.style ≡ s → is_hexadecimal s ≡ false
      → (z : Zeros (digits_text s c.alt c.precision zero_number) (tail_of s))
      → read (Some at.Start) (body c zero_number)
      ≡ read (Some (cond z.pointed (at.Fraction Ten) (whole_place (inner_zeros c zero_number (size_of c zero_number)))))
      (in_case c.upper (tail_of s))
  decimal_is_read s e other z =
      let late : List ℕ = cond z.pointed (46 ∷ zeros z.many) [] ++ in_case c.upper (tail_of s) in
      let k : ℕ = inner in
      (λ i. read (Some at.Start) (sign_is_plus i ++ decimal_after (ap is_hexadecimal e ∙ other) i))
      ∙ ap (λ (t : List ℕ). read (Some at.Start) (cond c.plus (43 ∷ []) [] ++ t))
      (ap (λ (t : List ℕ). zeros k ++ t) (size_is s e z) ∙ zeros_front k late)
      ∙ begun_zero c.plus (zeros k ++ late) ∙ more_zeros k late
      ∙ decimal_point z.pointed k z.many (in_case c.upper (tail_of s))

  hex_is_read : c.style ≡ Hexadecimal → read (Some at.Start) (body c zero_number) ≡ Some at.Exponent
  hex_is_read e =
      let z = digits_are_zeros Hexadecimal c.alt c.precision in
      let late : List ℕ = cond z.pointed (46 ∷ zeros z.many) [] ++ in_case c.upper (tail_of Hexadecimal) in
      let k : ℕ = inner in
      (λ i. read (Some at.Start) (sign_is_plus i ++ hex_after (ap is_hexadecimal e) i))
      ∙ begun_zero c.plus (cond c.upper 88 120 ∷ (zeros k ++ size_of c zero_number))
      ∙ hex_marked c.upper (zeros k ++ size_of c zero_number)
      ∙ ap (read (Some at.Prefix)) (ap (λ (t : List ℕ). zeros k ++ t) (size_is Hexadecimal e z) ∙ zeros_front k late)
      ∙ stays (at.Whole Sixteen) refl k late
      ∙ hex_point z.pointed z.many (in_case c.upper (tail_of Hexadecimal)) ∙ binary_end c.upper z.pointed

  -- where the text of 0 is read to
  abbrev pub plain_place : Bool → Reached
  plain_place p = cond p (at.Fraction Ten) (whole_place (inner_zeros c zero_number (size_of c zero_number)))

  pub fixed_zero_read : c.style ≡ Fixed
      → read (Some at.Start) (body c zero_number) ≡ Some (plain_place (digits_are_zeros Fixed c.alt c.precision).pointed)
  fixed_zero_read e =
      let z = digits_are_zeros Fixed c.alt c.precision in
      decimal_is_read Fixed e refl z ∙ no_tail c.upper (plain_place z.pointed)

  pub general_zero_read : c.style ≡ General
      → read (Some at.Start) (body c zero_number) ≡ Some (plain_place (digits_are_zeros General c.alt c.precision).pointed)
  general_zero_read e =
      let z = digits_are_zeros General c.alt c.precision in
      decimal_is_read General e refl z ∙ no_tail c.upper (plain_place z.pointed)

  pub exponent_zero_read : (c.style ≡ Exponent) ⊎ (c.style ≡ Hexadecimal)
      → read (Some at.Start) (body c zero_number) ≡ Some at.Exponent
  exponent_zero_read (inr e) = hex_is_read e
  exponent_zero_read (inl e) =
      let z = digits_are_zeros Exponent c.alt c.precision in
      decimal_is_read Exponent e refl z
      ∙ exponent_end c.upper z.pointed (inner_zeros c zero_number (size_of c zero_number))

  pub zero_matches : is_float (body c zero_number) ≡ true
  zero_matches = by c.style refl
    where
      plain : (p : Bool) (k : ℕ) → is_whole_at (Some (cond p (at.Fraction Ten) (whole_place k))) ≡ true
      plain true k = refl
      plain false zero = refl
      plain false (suc k) = refl

      by : (s : Style) → c.style ≡ s → is_float (body c zero_number) ≡ true
      by Fixed e = ap is_whole_at (fixed_zero_read e) ∙ plain (digits_are_zeros Fixed c.alt c.precision).pointed
          (inner_zeros c zero_number (size_of c zero_number))
      by General e = ap is_whole_at (general_zero_read e) ∙ plain (digits_are_zeros General c.alt c.precision).pointed
          (inner_zeros c zero_number (size_of c zero_number))
      by Exponent e = ap is_whole_at (exponent_zero_read (inl e))
      by Hexadecimal e = ap is_whole_at (exponent_zero_read (inr e))
