-- The text of an integer that has a digit is that of a conversion without `-` and without the precision 0, and blanks.
use Rattle.std.proofs.Common.{◌≡◌, ℕ, zero, suc, ◌+◌, ◌-◌, ◌<◌, ◌≤◌, ◌^◌, Bool, true, false, cond, eqb, ◌&&◌, ◌||◌, List, [], ◌∷◌, ◌++◌}
use Rattle.std.proofs.Common.{length, ℤ, pos, negsuc, unsigned_abs, Option, Some, None, unwrap_or, IfSome, refl, sym, ap, subst, ◌∙◌, arith}
use Rattle.std.proofs.Common.{append-nil, true≢false}
use Rattle.std.specs.Prelude.{not, is_none}
use Rattle.std.proofs.lemmas.Bool.{ne_eqb}
use Rattle.std.specs.Fmt.{digits}
use Rattle.std.specs.List.{list_any}
use Rattle.sf_format.specs.declared.unit.PrintConv.{PrintConv}
use Rattle.sf_format.specs.declared.unit.PrintLetter.{PrintLetter}
use Rattle.sf_format.specs.declared.unit.PrintLetter.TheVariants as letter
use Rattle.sf_format.specs.Units.{IsProperConv, HasPrecision}
use Rattle.sf_print.specs.texts.Text.{integer_text, sign, mark, prefix, all_digits, is_octal, is_upper, opens_with_zero, least_digits}
use Rattle.sf_print.specs.texts.Text.{blanks, zeros, left_blanks, inner_zeros, right_blanks, base_of, base_mark, pads_with_zeros}
use Rattle.sf_pair.specs.conversions.Below.{LawsBelow}
use Rattle.sf_pair.specs.conversions.Neighbours.{Bytes, digits_in}
use Rattle.sf_pair.specs.Fits.{has_digit}
use Rattle.sf_pair.proofs.ConversionLemmas.Parts.{counted_length, zero_digit}
use Rattle.sf_pair.proofs.ConversionLemmas.Bodies.{small_base}

-- the precision 1 for the precision 0
abbrev pub some_precision : Option ℕ → Option ℕ
some_precision None = None
some_precision (Some zero) = Some 1
some_precision (Some (suc n)) = Some (suc n)

-- without the padding of `-`, and with that precision
abbrev pub reduced : PrintConv → PrintConv
reduced c = record c {
  minus = false;
  zero = not c.minus && c.zero;
  width = cond c.minus 0 c.width;
  precision = some_precision c.precision;
}

pub reduced_least : (c : PrintConv) → 0 < least_digits (reduced c)
reduced_least c = by c.precision
  where
    by : (o : Option ℕ) → 0 < unwrap_or (some_precision o) 1
    by None = omega arith
    by (Some zero) = omega arith
    by (Some (suc n)) = omega arith

none_kept : (o : Option ℕ) → is_none (some_precision o) ≡ is_none o
none_kept None = refl
none_kept (Some zero) = refl
none_kept (Some (suc n)) = refl

pub reduced_pads : (c : PrintConv) → pads_with_zeros (reduced c) ≡ pads_with_zeros c
reduced_pads c = ap (λ (t : Bool). (not c.minus && c.zero) && true && t) (none_kept c.precision) ∙ by c.minus c.zero (is_none c.precision)
  where
    by : (m z n : Bool) → ((not m && z) && true && n) ≡ (z && not m && n)
    by true true n = refl
    by true false n = refl
    by false true n = refl
    by false false n = refl

pub reduced_proper : (c : PrintConv) → IsProperConv c → IsProperConv (reduced c)
reduced_proper c p = record {
  kind = p.kind;
  plus = p.plus;
  blank = p.blank;
  alt = p.alt;
  zero = λ none. cleared c.minus c.zero (p.zero none);
  width = narrow c.minus p.width;
  precision = few c.precision p.precision;
  one = single c.letter c.precision p.one;
}
  where
    cleared : (m z : Bool) → z ≡ false → (not m && z) ≡ false
    cleared true z e = refl
    cleared false z e = e

    narrow : (m : Bool) → c.width ≤ 65535 → cond m 0 c.width ≤ 65535
    narrow true h = omega arith
    narrow false h = h

    few : (o : Option ℕ) → IfSome o (λ p. p ≤ 255) → IfSome (some_precision o) (λ p. p ≤ 255)
    few None h = h
    few (Some zero) h = omega arith
    few (Some (suc n)) h = h

    single : (l : PrintLetter) (o : Option ℕ) → HasPrecision l o → HasPrecision l (some_precision o)
    single letter.One o e = ap some_precision e
    single letter.Signed o e = tt
    single letter.Unsigned o e = tt
    single letter.Octal o e = tt
    single letter.HexLower o e = tt
    single letter.HexUpper o e = tt
    single letter.Binary o e = tt
    single letter.Text o e = tt
    single (letter.Float style upper) o e = tt

-- ---- the digits

-- zeros up to so many digits, and that of `#`
abbrev filled_digits : PrintLetter → Bool → ℕ → List ℕ → List ℕ
filled_digits l alt least ds =
    let f = zeros (least - length ds) ++ ds in cond (is_octal l && alt && not (opens_with_zero f)) (48 ∷ f) f

abbrev numeral_by : PrintLetter → ℕ → ℕ → List ℕ
numeral_by l least m = cond (eqb m 0 && eqb least 0) [] (digits (base_of l) (is_upper l) m)

abbrev digits_by : PrintLetter → Bool → ℕ → ℕ → List ℕ
digits_by l alt least m = filled_digits l alt least (numeral_by l least m)

digits_are : (c : PrintConv) (m : ℕ) → all_digits c m ≡ digits_by c.letter c.alt (unwrap_or c.precision 1) m
digits_are c m = refl

-- 0 with the precision 0 has no digit but by the `#` of an octal number
module _ (laws : LawsBelow) (c : PrintConv) where
  octal_zero : (is_octal c.letter && c.alt) ≡ true → digits_by c.letter c.alt 0 0 ≡ digits_by c.letter c.alt 1 0
  octal_zero e =
      ap (λ (t : Bool). cond {A = List ℕ} (t && true) (48 ∷ []) []) e
      ∙ sym (ap (λ (ds : List ℕ). filled_digits c.letter c.alt 1 ds) (zero_digit laws c 0 refl) ∙ opened (is_octal c.letter && c.alt))
    where
      opened : (t : Bool) → cond {A = List ℕ} (t && false) (48 ∷ 48 ∷ []) (48 ∷ []) ≡ 48 ∷ []
      opened true = refl
      opened false = refl

  no_digits : (is_octal c.letter && c.alt) ≡ false → digits_by c.letter c.alt 0 0 ≡ []
  no_digits e = ap (λ (t : Bool). cond {A = List ℕ} (t && true) (48 ∷ []) []) e

  some_digits : (m : ℕ) → suc m < 2 ^ 64 → digits_by c.letter c.alt 0 (suc m) ≡ digits_by c.letter c.alt 1 (suc m)
  some_digits m small =
      let b = small_base c.letter in
      let n = laws.numerals (base_of c.letter) (is_upper c.letter) (suc m) b.0 b.1 small in
      let ds : List ℕ = digits (base_of c.letter) (is_upper c.letter) (suc m) in
      let none : 1 - length ds ≡ 0 - length ds = omega (arith, n.numeral.0) in
      let numeral = λ (least : ℕ). ap (λ (t : Bool). cond {A = List ℕ} (t && eqb least 0) [] ds) (ne_eqb (suc m) 0 (λ e. omega arith)) in
      ap (filled_digits c.letter c.alt 0) (numeral 0)
      ∙ ap (λ (k : ℕ). let f = zeros k ++ ds in cond (is_octal c.letter && c.alt && not (opens_with_zero f)) (48 ∷ f) f) (sym none)
      ∙ sym (ap (filled_digits c.letter c.alt 1) (numeral 1))

-- ---- no digit

any_append : (p : Bytes) (xs ys : List ℕ) → list_any p xs ≡ false → list_any p ys ≡ false → list_any p (xs ++ ys) ≡ false
any_append p [] ys h k = k
any_append p (x ∷ xs) ys h k = by (p x) h (any_append p xs ys)
  where
    by : (t : Bool) → (t || list_any p xs) ≡ false → (list_any p xs ≡ false → list_any p ys ≡ false → list_any p (xs ++ ys) ≡ false)
        → (t || list_any p (xs ++ ys)) ≡ false
    by true h more = absurd cc
    by false h more = more h k

any_blanks : (p : Bytes) (n : ℕ) → p 32 ≡ false → list_any p (blanks n) ≡ false
any_blanks p zero e = refl
any_blanks p (suc n) e = ap (λ (t : Bool). t || list_any p (blanks n)) e ∙ any_blanks p n e

no_sign_digit : (l : PrintLetter) → (digits_in (base_of l) 32 ≡ false) × (digits_in (base_of l) 43 ≡ false)
no_sign_digit letter.Signed = (refl, refl)
no_sign_digit letter.Unsigned = (refl, refl)
no_sign_digit letter.Octal = (refl, refl)
no_sign_digit letter.HexLower = (refl, refl)
no_sign_digit letter.HexUpper = (refl, refl)
no_sign_digit letter.Binary = (refl, refl)
no_sign_digit letter.Text = (refl, refl)
no_sign_digit letter.One = (refl, refl)
no_sign_digit (letter.Float style upper) = (refl, refl)

zero_sign : (c : PrintConv) → list_any (digits_in (base_of c.letter)) (sign c (pos 0)) ≡ false
zero_sign c = by c.plus c.blank
  where
    P : Bytes
    P = digits_in (base_of c.letter)

    by : (p b : Bool) → list_any (digits_in (base_of c.letter)) (cond p (43 ∷ []) (cond b (32 ∷ []) [])) ≡ false
    by true b = ap (λ (t : Bool). t || false) (no_sign_digit c.letter).1
    by false true = ap (λ (t : Bool). t || false) (no_sign_digit c.letter).0
    by false false = refl

zero_mark : (c : PrintConv) → mark c 0 ≡ []
zero_mark c = by c.alt
  where
    by : (t : Bool) → cond (t && false) (base_mark c.letter) [] ≡ []
    by true = refl
    by false = refl

-- so that its text has none
no_digit : (c : PrintConv) → all_digits c 0 ≡ [] → pads_with_zeros c ≡ false → has_digit c (pos 0) ≡ false
no_digit c none pads =
    let P : Bytes = digits_in (base_of c.letter) in
    let len : ℕ = counted_length c (pos 0) in
    let blank : P 32 ≡ false = (no_sign_digit c.letter).0 in
    let parts : integer_text c (pos 0)
    ≡ blanks (left_blanks c len) ++ (sign c (pos 0) ++ []) ++ [] ++ [] ++ blanks (right_blanks c len) =
    (λ i. blanks (left_blanks c len) ++ (sign c (pos 0) ++ zero_mark c i) ++ zeros (cond (pads i) (c.width - len) 0) ++ none i
    ++ blanks (right_blanks c len)) in
    ap (list_any P) parts
    ∙ any_append P (blanks (left_blanks c len) ++ (sign c (pos 0) ++ []) ++ [] ++ []) (blanks (right_blanks c len))
    (any_append P (blanks (left_blanks c len) ++ (sign c (pos 0) ++ []) ++ []) []
    (any_append P (blanks (left_blanks c len) ++ (sign c (pos 0) ++ [])) []
    (any_append P (blanks (left_blanks c len)) (sign c (pos 0) ++ []) (any_blanks P (left_blanks c len) blank)
    (any_append P (sign c (pos 0)) [] (zero_sign c) refl)) refl) refl)
    (any_blanks P (right_blanks c len) blank)

zero_value : (z : ℤ) → unsigned_abs z ≡ 0 → z ≡ pos 0
zero_value (pos n) e = ap pos e
zero_value (negsuc n) e = absurd (omega (arith, e))

-- where the text has a digit, the precision 0 is as good as 1
pub same_digits : LawsBelow → (c : PrintConv) (z : ℤ) → unsigned_abs z < 2 ^ 64 → has_digit c z ≡ true
    → all_digits c (unsigned_abs z) ≡ all_digits (reduced c) (unsigned_abs z)
same_digits laws c z small has = by c.precision refl
  where
    of_zero : c.precision ≡ Some 0 → (m : ℕ) → unsigned_abs z ≡ m → digits_by c.letter c.alt 0 m ≡ digits_by c.letter c.alt 1 m
    of_zero p (suc m) e = some_digits laws c m (subst (λ (k : ℕ). k < 2 ^ 64) e small)
    of_zero p zero e = octal (is_octal c.letter && c.alt) refl
      where
        octal : (t : Bool) → (is_octal c.letter && c.alt) ≡ t → digits_by c.letter c.alt 0 0 ≡ digits_by c.letter c.alt 1 0
        octal true is = octal_zero laws c is
        octal false is =
            let none : all_digits c 0 ≡ [] = ap (λ (o : Option ℕ). digits_by c.letter c.alt (unwrap_or o 1) 0) p ∙ no_digits laws c is in
            let pads : pads_with_zeros c ≡ false = ap (λ (o : Option ℕ). c.zero && not c.minus && is_none o) p
            ∙ never (c.zero && not c.minus) in
            absurd (true≢false (sym (ap (has_digit c) (sym (zero_value z e)) ∙ has) ∙ no_digit c none pads))
          where
            never : (t : Bool) → (t && false) ≡ false
            never true = refl
            never false = refl

    by : (o : Option ℕ) → c.precision ≡ o → digits_by c.letter c.alt (unwrap_or c.precision 1) (unsigned_abs z)
        ≡ digits_by c.letter c.alt (unwrap_or (some_precision c.precision) 1) (unsigned_abs z)
    by None e = (λ i. digits_by c.letter c.alt (unwrap_or (e i) 1) (unsigned_abs z))
        ∙ sym (λ i. digits_by c.letter c.alt (unwrap_or (some_precision (e i)) 1) (unsigned_abs z))
    by (Some zero) e = (λ i. digits_by c.letter c.alt (unwrap_or (e i) 1) (unsigned_abs z)) ∙ of_zero e (unsigned_abs z) refl
        ∙ sym (λ i. digits_by c.letter c.alt (unwrap_or (some_precision (e i)) 1) (unsigned_abs z))
    by (Some (suc n)) e = (λ i. digits_by c.letter c.alt (unwrap_or (e i) 1) (unsigned_abs z))
        ∙ sym (λ i. digits_by c.letter c.alt (unwrap_or (some_precision (e i)) 1) (unsigned_abs z))

-- ---- the text

same_prefix : (c : PrintConv) (z : ℤ) → prefix c z ≡ prefix (reduced c) z
same_prefix c (pos n) = refl
same_prefix c (negsuc n) = refl

same_left : (c : PrintConv) (len : ℕ) → left_blanks c len ≡ left_blanks (reduced c) len
same_left c len = by c.minus ∙ ap (λ (t : Bool). cond t 0 (cond c.minus 0 c.width - len)) (sym (reduced_pads c))
  where
    by : (m : Bool) → cond m 0 (cond (pads_with_zeros c) 0 (c.width - len)) ≡ cond (pads_with_zeros c) 0 (cond m 0 c.width - len)
    by true = nothing (pads_with_zeros c)
      where
        nothing : (p : Bool) → 0 ≡ cond p 0 (0 - len)
        nothing true = refl
        nothing false = omega arith
    by false = refl

same_inner : (c : PrintConv) (len : ℕ) → inner_zeros c len ≡ inner_zeros (reduced c) len
same_inner c len = by c.minus refl ∙ ap (λ (t : Bool). cond t (cond c.minus 0 c.width - len) 0) (sym (reduced_pads c))
  where
    never : (z n : Bool) → (z && false && n) ≡ false
    never true n = refl
    never false n = refl

    by : (m : Bool) → c.minus ≡ m → cond (pads_with_zeros c) (c.width - len) 0 ≡ cond (pads_with_zeros c) (cond c.minus 0 c.width - len) 0
    by true e =
        let none : pads_with_zeros c ≡ false = ap (λ (t : Bool). c.zero && not t && is_none c.precision) e
        ∙ never c.zero (is_none c.precision) in
        ap (λ (t : Bool). cond t (c.width - len) 0) none ∙ sym (ap (λ (t : Bool). cond t (cond c.minus 0 c.width - len) 0) none)
    by false e = ap (λ (t : Bool). cond (pads_with_zeros c) (cond t 0 c.width - len) 0) (sym e)

pub text_reduced : LawsBelow → (c : PrintConv) (z : ℤ) → unsigned_abs z < 2 ^ 64 → has_digit c z ≡ true
    → integer_text c z ≡ integer_text (reduced c) z ++ blanks (right_blanks c (counted_length c z))
text_reduced laws c z small has =
    let ds = same_digits laws c z small has in
    let len : counted_length c z ≡ counted_length (reduced c) z = (λ i. length (same_prefix c z i) + length (ds i)) in
    let left = same_left c (counted_length c z) ∙ ap (left_blanks (reduced c)) len in
    let inner = same_inner c (counted_length c z) ∙ ap (inner_zeros (reduced c)) len in
    (λ i. blanks (left i) ++ same_prefix c z i ++ zeros (inner i) ++ ds i ++ blanks (right_blanks c (counted_length c z)))
    ∙ ap (λ (t : List ℕ). t ++ blanks (right_blanks c (counted_length c z))) (sym (append-nil (blanks (left_blanks (reduced c)
    (counted_length (reduced c) z)) ++ prefix (reduced c) z ++ zeros (inner_zeros (reduced c) (counted_length (reduced c) z))
    ++ all_digits (reduced c) (unsigned_abs z))))
