-- The parts of an integer's text: blanks, a sign, the mark of its base, zeros and its numeral.
use Rattle.std.proofs.Common.{◌≡◌, ℕ, zero, suc, ◌+◌, ◌-◌, ◌*◌, ◌<◌, ◌≤◌, lit≤, Bool, true, false, cond, eqb, ◌&&◌, List, [], ◌∷◌, ◌++◌}
use Rattle.std.proofs.Common.{length, ℤ, pos, negsuc, unsigned_abs, refl, sym, ap, ◌∙◌, arith, append_assoc, append-nil}
use Rattle.std.specs.Prelude.{not}
use Rattle.std.proofs.lemmas.List.{replicate-append-replicate}
use Rattle.std.proofs.lemmas.Bool.{ne_eqb}
use Rattle.std.specs.Fmt.{digits}
use Rattle.sf_format.specs.declared.unit.PrintConv.{PrintConv}
use Rattle.sf_format.specs.declared.unit.PrintLetter.{PrintLetter}
use Rattle.sf_format.specs.declared.unit.PrintLetter.TheVariants as letter
use Rattle.sf_print.specs.texts.Text.{integer_text, sign, mark, prefix, numeral, all_digits, filled, is_octal, opens_with_zero}
use Rattle.sf_print.specs.texts.Text.{least_digits}
use Rattle.sf_print.specs.texts.Text.{blanks, zeros, left_blanks, inner_zeros, right_blanks, base_of, is_upper}
use Rattle.sf_print.specs.digits.Numeral.{IsNumeralOf}
use Rattle.sf_pair.specs.conversions.Below.{LawsBelow}

-- ---- the sign

-- the sign that is no blank, and how many blanks stand for one
abbrev pub bare_sign : PrintConv → ℤ → List ℕ
bare_sign c (negsuc n) = 45 ∷ []
bare_sign c (pos n) = cond c.plus (43 ∷ []) []

abbrev pub hidden : PrintConv → ℤ → ℕ
hidden c (negsuc n) = 0
hidden c (pos n) = cond c.plus 0 (cond c.blank 1 0)

abbrev plus_sign : List ℕ
plus_sign = 43 ∷ []

abbrev blank_sign : List ℕ
blank_sign = 32 ∷ []

pub sign_is : (c : PrintConv) (z : ℤ) → sign c z ≡ blanks (hidden c z) ++ bare_sign c z
sign_is c (negsuc n) = refl
sign_is c (pos n) = by c.plus c.blank
  where
    by : (p b : Bool) → cond p plus_sign (cond b blank_sign []) ≡ blanks (cond p 0 (cond b 1 0)) ++ cond p plus_sign []
    by true b = refl
    by false true = refl
    by false false = refl

-- ---- the digits

abbrev pub digits_of : PrintConv → ℤ → List ℕ
digits_of c z = digits (base_of c.letter) (is_upper c.letter) (unsigned_abs z)

pub numeral_is : (c : PrintConv) (m : ℕ) → 0 < least_digits c → numeral c m ≡ digits (base_of c.letter) (is_upper c.letter) m
numeral_is c m some = by (eqb m 0) (eqb (least_digits c) 0) (ne_eqb _ 0 (λ e. omega arith))
  where
    ds : List ℕ
    ds = digits (base_of c.letter) (is_upper c.letter) m

    by : (z p : Bool) → p ≡ false → cond (z && p) [] ds ≡ ds
    by true p e = ap (λ (b : Bool). cond b [] ds) e
    by false p e = refl

-- zeros up to the precision, and at most one more
pub record Filled (c : PrintConv) (m : ℕ) : Type 0 where
  pub lead : ℕ
  pub is : all_digits c m ≡ zeros lead ++ digits (base_of c.letter) (is_upper c.letter) m
  pub few : least_digits c ≡ 1 → is_octal c.letter ≡ false → lead ≡ 0
  pub enough : least_digits c ≤ lead + length (digits (base_of c.letter) (is_upper c.letter) m)
  pub of_zero : m ≡ 0 → lead + length (digits (base_of c.letter) (is_upper c.letter) m) ≡ least_digits c

and_false : (a : Bool) → (a && false) ≡ false
and_false true = refl
and_false false = refl

zeros_first : (k : ℕ) (ds : List ℕ) → ds ≡ 48 ∷ [] → opens_with_zero (zeros k ++ ds) ≡ true
zeros_first zero ds e = ap opens_with_zero e
zeros_first (suc k) ds e = refl

two_or_more : (l : PrintLetter) → 2 ≤ base_of l
two_or_more letter.Octal = omega arith
two_or_more letter.HexLower = omega arith
two_or_more letter.HexUpper = omega arith
two_or_more letter.Binary = omega arith
two_or_more _ = omega arith

at_most_sixteen : (l : PrintLetter) → base_of l ≤ 16
at_most_sixteen letter.Octal = omega arith
at_most_sixteen letter.HexLower = omega arith
at_most_sixteen letter.HexUpper = omega arith
at_most_sixteen letter.Binary = omega arith
at_most_sixteen _ = omega arith

module _ (laws : LawsBelow) (c : PrintConv) where
  low : 2 ≤ base_of c.letter
  low = two_or_more c.letter

  -- the numerals of 0 and 1 have one digit
  pub zero_digit : (m : ℕ) → m ≡ 0 → digits (base_of c.letter) (is_upper c.letter) m ≡ 48 ∷ []
  zero_digit m e =
      let digit : IsNumeralOf (base_of c.letter) (is_upper c.letter) 0 (48 ∷ []) =
      record {
        numeral = (lit≤ tt, (omega (arith, low), tt));
        value = none (base_of c.letter);
        in_case = (refl, tt);
        shortest =
            λ h. refl;
      } in
      ap (digits (base_of c.letter) (is_upper c.letter)) e ∙ sym (laws.only_numeral (base_of c.letter) (is_upper c.letter) 0 (48 ∷ []) low
      (at_most_sixteen c.letter) (lit≤ tt) digit)
    where
      none : (r : ℕ) → 0 * r + 0 ≡ 0
      none r = omega arith

  pub one_digit : digits (base_of c.letter) (is_upper c.letter) 1 ≡ 49 ∷ []
  one_digit =
      let digit : IsNumeralOf (base_of c.letter) (is_upper c.letter) 1 (49 ∷ []) =
      record {
        numeral = (lit≤ tt, (omega (arith, low), tt));
        value = one (base_of c.letter);
        in_case = (refl, tt);
        shortest =
            λ h. refl;
      } in
      sym (laws.only_numeral (base_of c.letter) (is_upper c.letter) 1 (49 ∷ []) low (at_most_sixteen c.letter) (lit≤ tt) digit)
    where
      one : (r : ℕ) → 0 * r + 1 ≡ 1
      one r = omega arith

pub fill : LawsBelow → (c : PrintConv) (m : ℕ) → 0 < least_digits c → 0 < length (digits (base_of c.letter) (is_upper c.letter) m)
    → Filled c m
fill laws c m some any = by test refl
  where
    ds : List ℕ
    ds = digits (base_of c.letter) (is_upper c.letter) m

    before : ℕ
    before = least_digits c - length (numeral c m)

    same : length (numeral c m) ≡ length ds
    same = ap length (numeral_is c m some)

    filled_is : filled c (numeral c m) ≡ zeros before ++ ds
    filled_is = ap (λ (xs : List ℕ). zeros before ++ xs) (numeral_is c m some)

    test : Bool
    test = (is_octal c.letter && c.alt) && not (opens_with_zero (filled c (numeral c m)))

    not_octal : is_octal c.letter ≡ false → test ≡ false
    not_octal e = ap (λ (o : Bool). (o && c.alt) && not (opens_with_zero (filled c (numeral c m)))) e

    not_opened : opens_with_zero (filled c (numeral c m)) ≡ true → test ≡ false
    not_opened e = ap (λ (o : Bool). (is_octal c.letter && c.alt) && not o) e ∙ and_false (is_octal c.letter && c.alt)

    by : (t : Bool) → test ≡ t → Filled c m
    by true e = record {
      lead = suc before;
      is = ap (λ (t : Bool). cond t (48 ∷ filled c (numeral c m)) (filled c (numeral c m))) e ∙ ap (λ (xs : List ℕ). 48 ∷ xs) filled_is;
      few = λ one no. let wrong : true ≡ false = sym e ∙ not_octal no in cc;
      enough = omega (arith, same);
      of_zero = λ z. let wrong : true ≡ false = sym e ∙ not_opened
          (ap opens_with_zero filled_is ∙ zeros_first before ds (zero_digit laws c m z)) in cc;
    }
    by false e = record {
      lead = before;
      is = ap (λ (t : Bool). cond t (48 ∷ filled c (numeral c m)) (filled c (numeral c m))) e ∙ filled_is;
      few = λ one no. omega (arith, same, any, one);
      enough = omega (arith, same);
      of_zero = λ z. let one = ap length (zero_digit laws c m z) in omega (arith, same, one, some);
    }

-- ---- the text

regroup : (b h v m z l ds : List ℕ) → b ++ ((h ++ v) ++ m) ++ z ++ (l ++ ds) ++ [] ≡ (b ++ h) ++ (v ++ (m ++ ((z ++ l) ++ ds)))
regroup b h v m z l ds = simp (append_assoc, append-nil)

-- how many bytes stand before the padding is counted
abbrev pub counted_length : PrintConv → ℤ → ℕ
counted_length c z = length (prefix c z) + length (all_digits c (unsigned_abs z))

pub parts_of : (c : PrintConv) (z : ℤ) (f : Filled c (unsigned_abs z)) → c.minus ≡ false
    → integer_text c z ≡ blanks (left_blanks c (counted_length c z) + hidden c z) ++
    (bare_sign c z ++ (mark c (unsigned_abs z) ++ (zeros (inner_zeros c (counted_length c z) + f.lead) ++ digits_of c z)))
parts_of c z f right =
    let m : ℕ = unsigned_abs z in
    let len : ℕ = counted_length c z in
    let none : right_blanks c len ≡ 0 = ap (λ (b : Bool). cond b (c.width - len) 0) right in
    (λ t. blanks (left_blanks c len) ++ (sign_is c z t ++ mark c m) ++ zeros (inner_zeros c len) ++ f.is t ++ blanks (none t))
    ∙ regroup (blanks (left_blanks c len)) (blanks (hidden c z)) (bare_sign c z) (mark c m) (zeros (inner_zeros c len)) (zeros f.lead)
    (digits_of c z)
    ∙ (λ t. replicate-append-replicate (left_blanks c len) (hidden c z) 32 t ++
    (bare_sign c z ++ (mark c m ++ (replicate-append-replicate (inner_zeros c len) f.lead 48 t ++ digits_of c z))))
