-- Each finite double that is printed with digits enough fits.
use Rattle.std.proofs.Common.{◌≡◌, ◌⊎◌, inl, inr, ℕ, ◌+◌, ◌-◌, ◌^◌, ◌<◌, ◌≤◌, Bool, true, false, cond, List, [], ◌∷◌, ◌++◌, max, Option}
use Rattle.std.proofs.Common.{Some, None, IfSome, is_some, unwrap_or, from_bits, to_bits, T, refl, sym, ap, subst, ◌∙◌, arith}
use Rattle.std.specs.Prelude.{not}
use Rattle.std.specs.List.{cons_option}
use lib.Ieee.{is_nan}
use lib.Ieee.Bits.{of_bits-fits, to_bits-of_bits}
use Rattle.std.specs.Float.{is_sign_negative, float_is_finite, float_is_infinite}
use Rattle.std.specs.Float.Ieee.{Float, nan, inf, fin, fits, binary64}
use Rattle.sf_base.specs.declared.values.Kind.TheVariants as kind
use Rattle.sf_base.specs.Data.{Datum, Number, Bytes, Real}
use Rattle.sf_base.specs.declared.real.Real.TheVariants as reals
use Rattle.sf_format.specs.declared.unit.FloatStyle.{FloatStyle}
use Rattle.sf_format.specs.declared.unit.FloatStyle.TheVariants as style
use Rattle.sf_format.specs.declared.unit.PrintConv.{PrintConv}
use Rattle.sf_format.specs.declared.unit.PrintLetter.{PrintLetter}
use Rattle.sf_format.specs.declared.unit.PrintLetter.TheVariants as letter
use Rattle.sf_format.specs.declared.unit.Unit.{Unit as PrintUnit}
use Rattle.sf_format.specs.declared.directive.Lead.{Lead}
use Rattle.sf_format.specs.declared.directive.Shape.{Shape}
use Rattle.sf_format.specs.declared.directive.Shape.TheVariants as shape
use Rattle.sf_format.specs.declared.directive.Conversion.{Conversion}
use Rattle.sf_format.specs.declared.directive.Directive.{Directive}
use Rattle.sf_format.specs.declared.directive.Directive.TheVariants as directive
use Rattle.sf_format.specs.Units.{prints_kind, IsProperConv, IsProperUnit, AreProperUnits}
use Rattle.sf_float.specs.declared.text.Style.{Style}
use Rattle.sf_float.specs.declared.text.Style.TheVariants.{Hexadecimal}
use Rattle.sf_float.specs.declared.text.FloatConv.{FloatConv}
use Rattle.sf_float.specs.Printed.{in_case, is_hexadecimal, inner_zeros}
use Rattle.sf_float.specs.Computed.{general_of, number_of, power_of, digits_text}
use Rattle.sf_float.specs.Laws.{GeneralReadsBack, GeneralZeroReadsBack}
use Rattle.sf_float_read.specs.item.Parts.{IsSign}
use Rattle.sf_float_read.specs.value.Laws.{HexadecimalReadsBack}
use Rattle.sf_float_read.specs.value.Values.{is_minus, stored, IsHexValue, IsStored, IsStoredSize}
use Rattle.sf_print.specs.texts.Text.{zeros}
use Rattle.sf_print.specs.texts.Floats.{style_of, float_conv}
use Rattle.sf_pair.specs.Groups.{width_of, letters_pair, pairing_fault, IsConversionGroup, IsGroup, AreCut, is_left_out, next_of}
use Rattle.sf_pair.specs.conversions.Widths.{written_style}
use Rattle.sf_pair.specs.Fits.{RealFits, ColumnFits, FitsBy, ValueFits, FitsAt, AllFit, conversions, assigned_conversions}
use Rattle.sf_pair.specs.Doubles.{WritesEnough, CarriesDoubles, IsFiniteDouble, IsCarried, AllCarried, FiniteDoublesFit}
use Rattle.sf_pair.proofs.Paired.{Alike, alike, pairs, column_is}
use Rattle.sf_pair.proofs.ReadColumns.{float_column_text}
use Rattle.sf_pair.proofs.FloatColumns.{body_ends, text_full}
use Rattle.sf_pair.proofs.FitCut.{all_rest, space_prints_none}
use Rattle.sf_pair.proofs.ConversionLemmas.RealTexts.{size_of, bare_sign, mark_bytes, after_sign, body, mark_is, seen_is}
use Rattle.sf_pair.proofs.ConversionLemmas.LongestReals.{none_is_longer}
use Rattle.sf_pair.proofs.ConversionLemmas.PaddedNumerals.{Decimal, padded_numeral, padded_back}
use Rattle.sf_pair.proofs.ConversionLemmas.PaddedHexadecimals.{hex_padded}
use Rattle.sf_pair.proofs.ConversionLemmas.EnoughDigits.{exponent_reads, general_reads}
use Rattle.sf_pair.proofs.ConversionLemmas.BinaryDigits.{hexadecimal_right}

-- the laws of the crates below
pub record FloatsReadBack : Type 0 where
  pub general : GeneralReadsBack
  pub general_zero : GeneralZeroReadsBack
  pub hexadecimal : HexadecimalReadsBack

-- ---- patterns

no_nan : (x : Float) → float_is_finite x ≡ true → T (not (is_nan x))
unfolding float_is_finite is_nan
no_nan nan e = absurd cc
no_nan (inf s) e = absurd cc
no_nan (fin s m n) e = tt

stored_finite : (x : Float) → float_is_finite x ≡ true → stored binary64 x ≡ Some (to_bits binary64 x)
unfolding float_is_finite float_is_infinite
stored_finite nan e = absurd cc
stored_finite (inf s) e = absurd cc
stored_finite (fin s m n) e = refl

same_pattern : (bits : ℕ) → bits < 2 ^ 64 → float_is_finite (from_bits binary64 bits) ≡ true
    → Some bits ≡ stored binary64 (from_bits binary64 bits)
same_pattern bits small finite = sym (stored_finite (from_bits binary64 bits) finite
    ∙ ap Some (to_bits-of_bits binary64 bits (omega (arith, small)) (no_nan (from_bits binary64 bits) finite)))

-- ---- the text

few_digits : (o : Option ℕ) → IfSome o (λ p. p ≤ 255) → unwrap_or o 6 ≤ 255
few_digits None h = omega arith
few_digits (Some p) h = h

module _ (laws : FloatsReadBack) (f : FloatConv) (bits : ℕ) (small : bits < 2 ^ 64)
    (finite : float_is_finite (from_bits binary64 bits) ≡ true) where
  x : Float
  x = from_bits binary64 bits

  signed : IsSign (bare_sign f (from_bits binary64 bits))
  signed = by (is_sign_negative (from_bits binary64 bits)) f.plus
    where
      by : (n p : Bool) → IsSign (cond n (45 ∷ []) (cond p (43 ∷ []) []))
      by true p = inr (inr refl)
      by false true = inr (inl refl)
      by false false = inl refl

  minus_is : is_minus (bare_sign f (from_bits binary64 bits)) ≡ is_sign_negative (from_bits binary64 bits)
  minus_is = by (is_sign_negative (from_bits binary64 bits)) f.plus
    where
      by : (n p : Bool) → is_minus (cond n (45 ∷ []) (cond p (43 ∷ []) [])) ≡ n
      by true p = refl
      by false true = refl
      by false false = refl

  abbrev pub Stored : Type 0
  Stored = IsStored binary64 (body f (from_bits binary64 bits)) (Some bits)

  pub decimal_stored : is_hexadecimal f.style ≡ false
      → Decimal binary64 (is_sign_negative (from_bits binary64 bits)) (digits_text f.style f.alt f.precision (from_bits binary64 bits))
      (from_bits binary64 bits)
      → Stored
  decimal_stored other d =
      let x : Float = from_bits binary64 bits in
      let k : ℕ = inner_zeros f x (size_of f x) in
      let t : List ℕ = digits_text f.style f.alt f.precision x in
      let sign : List ℕ = bare_sign f x in
      let same : zeros k ++ in_case f.upper t ≡ after_sign f x = ap (λ (m : List ℕ). m ++ (zeros k ++ in_case f.upper t))
      (sym (mark_is f x finite ∙ ap (λ (t : Bool). cond t (mark_bytes f) []) other)) in (
        sign,
        after_sign f x,
        signed,
        refl,
        subst (λ (size : List ℕ). IsStoredSize binary64 (is_minus sign) (sign ++ size) size (Some bits)) same
            (inl (
              padded_numeral binary64 (is_sign_negative x) t x d f.upper k,
              (x, padded_back binary64 (is_sign_negative x) t x d f.upper k sign signed minus_is, same_pattern bits small finite),
            )),
      )

  pub hexadecimal_stored : is_hexadecimal f.style ≡ true
      → IsHexValue binary64 (is_sign_negative (from_bits binary64 bits))
      (digits_text f.style f.alt f.precision (from_bits binary64 bits)) (from_bits binary64 bits)
      → Stored
  hexadecimal_stored is v =
      let x : Float = from_bits binary64 bits in
      let k : ℕ = inner_zeros f x (size_of f x) in
      let t : List ℕ = digits_text f.style f.alt f.precision x in
      let sign : List ℕ = bare_sign f x in
      let same : mark_bytes f ++ (zeros k ++ in_case f.upper t) ≡ after_sign f x = ap (λ (m : List ℕ). m ++ (zeros k ++ in_case f.upper t))
      (sym (mark_is f x finite ∙ ap (λ (t : Bool). cond t (mark_bytes f) []) is)) in (
        sign,
        after_sign f x,
        signed,
        refl,
        subst (λ (size : List ℕ). IsStoredSize binary64 (is_minus sign) (sign ++ size) size (Some bits)) same
            (inr (inl (
              cond f.upper 88 120,
              zeros k ++ in_case f.upper t,
              mark_letter f.upper,
              refl,
              (
                x,
                hex_padded f.upper k binary64 (is_minus sign) t x (subst (λ (s : Bool). IsHexValue binary64 s t x) (sym minus_is) v),
                same_pattern bits small finite,
              ),
            ))),
      )
    where
      mark_letter : (u : Bool) → let l : ℕ = cond u 88 120 in (l ≡ 120) ⊎ (l ≡ 88)
      mark_letter true = inr refl
      mark_letter false = inl refl

-- ---- a conversion

-- the number is read as the double, whatever stands around it
body_stored : FloatsReadBack → (c : PrintConv) (bits : ℕ) → IsProperConv c → WritesEnough (written_style c.letter) c.precision
    → bits < 2 ^ 64 → float_is_finite (from_bits binary64 bits) ≡ true
    → IsStored binary64 (body (float_conv c) (from_bits binary64 bits)) (Some bits)
body_stored laws c bits proper enough small finite = by (written_style c.letter) (by_letter c.letter) enough
  where
    f : FloatConv
    f = float_conv c

    x : Float
    x = from_bits binary64 bits

    few : unwrap_or c.precision 6 ≤ 255
    few = few_digits c.precision proper.precision

    by_letter : (k : PrintLetter) → style_of k ≡ style_of (letter.Float (written_style k) false)
    by_letter (letter.Float style.Fixed u) = refl
    by_letter (letter.Float style.Exponent u) = refl
    by_letter (letter.Float style.General u) = refl
    by_letter (letter.Float style.Hexadecimal u) = refl
    by_letter letter.Text = refl
    by_letter letter.One = refl
    by_letter _ = refl

    one_more : (k : ℕ) → 17 ≤ k → max k 1 - 1 + 1 ≡ max k 1
    one_more k many = omega (arith, many)

    by : (l : FloatStyle) → style_of c.letter ≡ style_of (letter.Float l false) → WritesEnough l c.precision
        → IsStored binary64 (body (float_conv c) (from_bits binary64 bits)) (Some bits)
    by style.Fixed e many = absurd many
    by style.Exponent e many =
        decimal_stored laws (float_conv c) bits small finite (ap is_hexadecimal e)
        (subst (λ (k : Style). Decimal binary64 (is_sign_negative x) (digits_text k c.alt c.precision x) x) (sym e)
        (exponent_reads x c.alt (unwrap_or c.precision 6) (of_bits-fits binary64 bits) finite many few))
    by style.General e many =
        let k : ℕ = max (unwrap_or c.precision 6) 1 in
        decimal_stored laws (float_conv c) bits small finite (ap is_hexadecimal e)
        (subst (λ (k : Style). Decimal binary64 (is_sign_negative x) (digits_text k c.alt c.precision x) x) (sym e)
        (subst (λ (j : ℕ). Decimal binary64 (is_sign_negative x) (general_of c.alt k (number_of x j) (power_of x j)) x)
        (sym (one_more (unwrap_or c.precision 6) many))
        (general_reads laws.general laws.general_zero x c.alt k (of_bits-fits binary64 bits) finite (omega (arith, many))
        (omega (arith, few)))))
    by style.Hexadecimal e many =
        hexadecimal_stored laws (float_conv c) bits small finite (ap is_hexadecimal e)
        (subst (λ (k : Style). IsHexValue binary64 (is_sign_negative x) (digits_text k c.alt c.precision x) x) (sym e)
        (laws.hexadecimal x c.alt c.precision (digits_text Hexadecimal c.alt c.precision x) (of_bits-fits binary64 bits) many
        (hexadecimal_right x c.alt c.precision (of_bits-fits binary64 bits) finite)))

pub double_fits : FloatsReadBack → (c : PrintConv) (s : Conversion) (bits : ℕ) → IsProperConv c → c.minus ≡ false → CarriesDoubles c s
    → bits < 2 ^ 64 → float_is_finite (from_bits binary64 bits) ≡ true → RealFits c s (reals.F64 bits)
double_fits laws c s bits proper right carries small finite = (
  carries.double,
  finite,
  omega (arith, none_is_longer c right (few_digits c.precision proper.precision) bits finite, carries.room),
  subst (λ (t : List ℕ). IsStored binary64 t (Some bits)) (sym (seen_is (float_conv c) (from_bits binary64 bits) finite right))
      (body_stored laws c bits proper carries.digits small finite),
)

-- a letter that prints doubles is read as a float
reads_float : (c : PrintConv) (h : Shape) → IsProperConv c → c.kind ≡ kind.F64 → letters_pair c.letter h ≡ true
    → (lead : Lead) × (h ≡ shape.Float lead)
reads_float c h proper double pair = by c.letter h (ap (prints_kind c.letter) (sym double) ∙ proper.kind) pair
  where
    by : (l : PrintLetter) (h : Shape) → prints_kind l kind.F64 ≡ true → letters_pair l h ≡ true → (lead : Lead) × (h ≡ shape.Float lead)
    by (letter.Float style upper) (shape.Float lead) prints e = (lead, refl)
    by (letter.Float style upper) (shape.Int numeral) prints e = absurd cc
    by (letter.Float style upper) _ prints e = absurd cc
    by letter.Text h prints e = absurd cc
    by letter.One h prints e = absurd cc
    by _ h prints e = absurd cc

-- the same in a column
double_stands : FloatsReadBack → (c : PrintConv) (s : Conversion) (bits : ℕ) → IsProperConv c → Alike c s → s.column ≡ true
    → CarriesDoubles c s → bits < 2 ^ 64 → float_is_finite (from_bits binary64 bits) ≡ true → ColumnFits c s (Real (reals.F64 bits))
double_stands laws c s bits proper p column carries small finite =
    let r = reads_float c s.shape proper carries.double p.letters in
    let few = few_digits c.precision proper.precision in
    let width : width_of s ≡ c.width = ap (λ (o : Option ℕ). unwrap_or o 1) (column_is c s p column) in
    let x : Float = from_bits binary64 bits in (
      text_full c few bits finite (omega (arith, carries.room, width)) ∙ sym width,
      (
        carries.double,
        finite,
        subst (λ (t : List ℕ). IsStored binary64 t (Some bits)) (sym (float_column_text c s p column r.0 r.1 x finite
            (body_ends (float_conv c) x finite))) (body_stored laws c bits proper carries.digits small finite),
      ),
    )

-- ---- a pair

-- the conversions that face each other
abbrev ArePaired : List PrintConv → List Conversion → Type 0
ArePaired [] [] = Unit {0}
ArePaired (c ∷ cs) (s ∷ ss) = (IsProperConv c × (pairing_fault c s ≡ None)) × ArePaired cs ss
ArePaired _ _ = ⊥

paired_here : (d : Directive) (group rest : List PrintUnit) (ds : List Directive) → AreProperUnits (group ++ rest)
    → IsGroup d group rest (next_of ds) → ArePaired (conversions rest) (assigned_conversions ds)
    → ArePaired (conversions (group ++ rest)) (assigned_conversions (d ∷ ds))
paired_here directive.Space group rest ds units is more =
    subst (λ (cs : List PrintConv). ArePaired cs (assigned_conversions ds)) (sym (space_prints_none group rest is.1)) more
paired_here (directive.Byte b) group rest ds units is more =
    subst (λ (g : List PrintUnit). ArePaired (conversions (g ++ rest)) (assigned_conversions ds)) (sym is.1) more
paired_here directive.Percent group rest ds units is more =
    subst (λ (g : List PrintUnit). ArePaired (conversions (g ++ rest)) (assigned_conversions ds)) (sym is.1) more
paired_here (directive.Opens o) group rest ds units is more = absurd is
paired_here (directive.Conv s) group rest ds units is more = by (is_left_out s) s.slot is
  where
    by : (out : Bool) (o : Option ℕ) → IsConversionGroup out (is_some o) s group rest (next_of ds)
        → ArePaired (conversions (group ++ rest)) (cons_option (elim o [ None ↦ None | Some slot ↦ Some s ]) (assigned_conversions ds))
    by true o h = absurd h
    by false None (b, e, wanted) =
        subst (λ (g : List PrintUnit). ArePaired (conversions (g ++ rest)) (assigned_conversions ds)) (sym e) more
    by false (Some slot) (c, e, pairing, closing) =
        let proper = subst (λ (g : List PrintUnit). AreProperUnits (g ++ rest)) e units in
        subst (λ (g : List PrintUnit). ArePaired (conversions (g ++ rest)) (s ∷ assigned_conversions ds)) (sym e)
        ((proper.0, pairing), more)

all_paired : (ds : List Directive) (us : List PrintUnit) → AreProperUnits us → AreCut ds us
    → ArePaired (conversions us) (assigned_conversions ds)
all_paired [] us units cut = subst (λ (us : List PrintUnit). ArePaired (conversions us) []) (sym cut) tt
all_paired (d ∷ ds) us units (group, rest, parts, is, more) =
    let here = subst AreProperUnits parts units in
    subst (λ (us : List PrintUnit). ArePaired (conversions us) (assigned_conversions (d ∷ ds))) (sym parts)
    (paired_here d group rest ds here is (all_paired ds rest (all_rest IsProperUnit group rest here) more))

module _ (laws : FloatsReadBack) (values : List Datum) where
  datum_fits : (c : PrintConv) (s : Conversion) (v : Datum) → IsProperConv c → pairing_fault c s ≡ None → CarriesDoubles c s
      → IsFiniteDouble v → ValueFits c s v
  datum_fits c s (Number k z) proper p carries h = absurd h
  datum_fits c s (Bytes bytes) proper p carries h = absurd h
  datum_fits c s (Real (reals.F32 bits)) proper p carries h = absurd h
  datum_fits c s (Real (reals.F64 bits)) proper p carries h = by s.column refl
    where
      by : (t : Bool) → s.column ≡ t → FitsBy t c s (Real (reals.F64 bits))
      by true column = double_stands laws c s bits proper (alike c s p) column carries h.0 h.1
      by false item = double_fits laws c s bits proper (pairs c s item p).right carries h.0 h.1

  one_fits : (c : PrintConv) (s : Conversion) → IsProperConv c → pairing_fault c s ≡ None → IsCarried values c s → FitsAt values c s
  one_fits c s proper p (inl fits) = fits
  one_fits c s proper p (inr (carries, (v, at, h))) = (v, at, datum_fits c s v proper p carries h)

  all_fit : (cs : List PrintConv) (ss : List Conversion) → ArePaired cs ss → AllCarried values cs ss → AllFit values cs ss
  all_fit [] [] paired carried = tt
  all_fit [] (s ∷ ss) paired carried = absurd carried
  all_fit (c ∷ cs) [] paired carried = absurd carried
  all_fit (c ∷ cs) (s ∷ ss) paired carried =
      (one_fits c s paired.0.0 paired.0.1 carried.0, all_fit cs ss paired.1 carried.1)

pub finite_doubles_fit : FloatsReadBack → FiniteDoublesFit
finite_doubles_fit laws us ds accepted aligned values count carried = record {
  count = count;
  each = all_fit laws values (conversions us) (assigned_conversions ds) (all_paired ds us accepted.proper aligned.cut) carried;
}
