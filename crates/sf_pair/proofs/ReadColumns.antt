-- What a conversion prints of a value that stands in a column, the scan's conversion reads back from the column.
use Rattle.std.proofs.Common.{◌≡◌, ℕ, zero, suc, ◌+◌, ◌-◌, ◌<◌, ◌≤◌, ◌^◌, ◌⊎◌, inl, inr, Bool, true, false, cond, ◌&&◌, ◌||◌, nat_lt}
use Rattle.std.proofs.Common.{List, [], ◌∷◌, ◌++◌, length, ℤ, unsigned_abs, Option, Some, None, is_some, option_map, unwrap_or, from_bits}
use Rattle.std.proofs.Common.{refl, sym, ap, subst, ◌∙◌, arith, append_assoc, append-nil, length-append, true≢false}
use Rattle.std.proofs.lemmas.Bool.{lt-ltb}
use Rattle.std.proofs.lemmas.Bool.Decides.{nat_tests}
use Rattle.std.proofs.lemmas.List.{take_all}
use Rattle.std.specs.Prelude.{not, is_none}
use Rattle.std.specs.Str.Parse.{AllDigits}
use Rattle.std.specs.Float.{is_sign_negative, float_is_finite}
use Rattle.std.specs.Float.Ieee.{Float, binary64}
use Rattle.std.specs.List.{AllByRecursion, list_all}
use Rattle.sf_base.specs.Bytes.{is_white}
use Rattle.sf_base.specs.Sets.{has_byte}
use Rattle.sf_base.specs.Blanks.{StartsWithInk, EndsWithInk, IsTrimmed, are_white, trimmed}
use Rattle.sf_base.proofs.Blanks.{trimmed_only, not_trimmed_white}
use Rattle.sf_base.specs.declared.real.Real as real
use Rattle.sf_base.specs.declared.real.Real.TheVariants as reals
use Rattle.sf_base.specs.declared.values.Kind.{Kind}
use Rattle.sf_base.specs.declared.values.Kind.TheVariants as kind
use Rattle.sf_base.specs.Data.{Datum, Number, Bytes, Real}
use Rattle.sf_format.specs.declared.directive.Base.{Base}
use Rattle.sf_format.specs.declared.directive.Lead.{Lead}
use Rattle.sf_format.specs.declared.directive.Lead.TheVariants.{Any, Minus, Nothing}
use Rattle.sf_format.specs.declared.directive.Numeral.{Numeral}
use Rattle.sf_format.specs.declared.directive.Shape.{Shape}
use Rattle.sf_format.specs.declared.directive.Shape.TheVariants as shape
use Rattle.sf_format.specs.declared.directive.Conversion.{Conversion}
use Rattle.sf_format.specs.declared.unit.FloatStyle.{FloatStyle}
use Rattle.sf_format.specs.declared.unit.PrintConv.{PrintConv}
use Rattle.sf_format.specs.declared.unit.PrintLetter.{PrintLetter}
use Rattle.sf_format.specs.declared.unit.PrintLetter.TheVariants as letter
use Rattle.sf_format.specs.Leads.{is_strict_lead, is_strict}
use Rattle.sf_format.specs.Proper.{IsProperWidth}
use Rattle.sf_format.specs.Units.{IsProperConv, prints_kind, has_flag, is_text as is_text_kind}
use Rattle.sf_float.specs.declared.text.FloatConv.{FloatConv}
use Rattle.sf_float.specs.Computed.{float_text}
use Rattle.sf_float.specs.Printed.{bare_len, left_blanks as float_left, right_blanks as float_right}
use Rattle.sf_float_read.specs.declared.item.reached.Forms.TheVariants as forms
use Rattle.sf_float_read.specs.item.Tests.{is_whole_at, is_float}
use Rattle.sf_float_read.specs.value.Computed.{stored_in}
use Rattle.sf_item.specs.ColumnTests.{column_text, shape_fills, fills}
use Rattle.sf_item.specs.Tests.{is_ink, integer_in, shape_matches}
use Rattle.sf_print.specs.texts.Floats.{float_conv, real_text}
use Rattle.sf_print.specs.texts.Text.{integer_text, bytes_text, shown_bytes, first_bytes, padded, blanks, mark, base_of, least_digits}
use Rattle.sf_print.specs.texts.Text.{right_blanks, pads_with_zeros}
use Rattle.sf_print.specs.texts.Visible.{visible}
use Rattle.sf_report.specs.declared.outcome.Status.TheVariants.{MatchingFailure}
use Rattle.sf_report.specs.Steps.{Stores, Fails}
use Rattle.sf_report.specs.Machine.{empty_end, passed_end, stored_end, text_end, column_end, real_in, real_end}
use Rattle.sf_pair.specs.conversions.Below.{LawsBelow}
use Rattle.sf_pair.specs.conversions.Neighbours.{Bytes as ByteTest, only, or, is_float as is_float_letter, float_digit, number_first}
use Rattle.sf_pair.specs.conversions.Neighbours.{integer_first}
use Rattle.sf_pair.specs.conversions.Neighbours.{fills_with_zeros, fills_with_blanks, inked_first, bare_first, suits_column, column_first}
use Rattle.sf_pair.specs.Groups.{is_text, is_auto, bases_pair, signs_pair, letters_pair, width_of}
use Rattle.sf_pair.specs.Fits.{is_negative, IsOfKind, IsUncut, StandsApart, TextStands, RealStands, ColumnFits}
use Rattle.sf_pair.proofs.ConversionLemmas.Bodies.{StartsInk, FirstByte, blanks_byte, digit_above, ink_above, small_base, Body, body_of}
use Rattle.sf_pair.proofs.ConversionLemmas.Parts.{bare_sign, counted_length}
use Rattle.sf_pair.proofs.ConversionLemmas.Firsts.{FirstIn, first_weaker, first_append, or_right, integer_text_first}
use Rattle.sf_pair.proofs.ConversionLemmas.Reduced.{reduced, reduced_least, reduced_pads, reduced_proper, text_reduced}
use Rattle.sf_pair.proofs.ConversionLemmas.Shortest.{visible_some}
use Rattle.sf_pair.proofs.ConversionLemmas.RealTexts.{size_of, hidden as float_hidden, after_sign, body, before, text_is_all, digit_follows}
use Rattle.sf_pair.proofs.ConversionLemmas.RealTexts.{body_ink}
use Rattle.sf_pair.proofs.Paired.{or_none, and_so, and_both, IsBare, Alike, bare_is, zeros_fill, column_is, kinds_are, slot_is, small_of}
use Rattle.sf_pair.proofs.FitTests.{all_is, ink_is}
use Rattle.sf_pair.proofs.Taken.{integer_stored}
use Rattle.sf_pair.proofs.TakenTexts.{text_stored, set_stored}
use Rattle.sf_pair.proofs.Trims.{starts_with, ends_more, all_end, ends_some, padded_is}
use Rattle.sf_pair.proofs.ReadReals.{sign_first, body_byte, FloatRead, float_read}
use Rattle.sf_pair.proofs.ReadBack.{Reading, reading, hidden_none, one_test, text_byte, no_number, no_number_of_double}
use Rattle.sf_pair.proofs.Back.{ReadsColumn}

first_some : (set : ByteTest) (xs : List ℕ) → FirstIn set xs → 0 < length xs
first_some set [] f = absurd f
first_some set (b ∷ xs) f = omega arith

byte_more : (xs ys : List ℕ) → 0 < length xs → FirstByte xs → FirstByte (xs ++ ys)
byte_more [] ys some h = absurd (omega arith)
byte_more (x ∷ xs) ys some h = h

-- ---- the text in a column

-- with ! no blank stands around it
pub padded_text : (s : Conversion) (a k : ℕ) (x t : List ℕ) → x ≡ blanks a ++ (t ++ blanks k) → StartsWithInk t → EndsWithInk t
    → (is_strict s.shape ≡ true → (a ≡ 0) × (k ≡ 0)) → column_text s x ≡ t
padded_text s a k x t e starts ends bare = by (is_strict s.shape) refl
  where
    by : (strict : Bool) → is_strict s.shape ≡ strict → cond strict x (trimmed x) ≡ t
    by true strict =
        let none = bare strict in
        e ∙ (λ i. blanks (none.0 i) ++ (t ++ blanks (none.1 i))) ∙ append-nil t
    by false strict = sym (trimmed_only x t (subst (λ (x : List ℕ). IsTrimmed x t) (sym e) (padded_is a k t starts ends)))

pub padded_ink : (a k : ℕ) (x t : List ℕ) → x ≡ blanks a ++ (t ++ blanks k) → StartsWithInk t → EndsWithInk t → are_white x ≡ false
padded_ink a k x t e starts ends = ap are_white e ∙ not_trimmed_white _ t (padded_is a k t starts ends)

-- a column whose text fills the conversion
pub column_ends_so : (s : Conversion) (x t : List ℕ) (slot : ℕ) (v : Datum) → are_white x ≡ false → column_text s x ≡ t
    → fills s t ≡ true → passed_end s s.slot t ≡ Stores slot v → column_end s x ≡ Stores slot v
column_ends_so s x t slot v ink is full stored =
    (λ i. cond (ink i) (empty_end s true) (text_end s (is i)))
    ∙ ap (λ (k : Bool). cond k (passed_end s s.slot t) (Fails MatchingFailure)) full ∙ stored

-- ---- integers

digits_end : (r : ℕ) (ds : List ℕ) → r ≤ 16 → 0 < length ds → AllDigits r ds → EndsWithInk ds
digits_end r [] small some all = absurd (omega arith)
digits_end r (d ∷ []) small some all =
    let h = all.0 in
    let k = digit_above d (omega arith) in
    ([], d, refl, ink_above d (omega arith))
digits_end r (d ∷ e ∷ ds) small some all = ends_more (d ∷ []) (e ∷ ds) (digits_end r (e ∷ ds) small (omega arith) all.1)

body_ends : (c : PrintConv) (z : ℤ) → Body c z → EndsWithInk (visible c z)
body_ends c z b = subst EndsWithInk (sym b.visible_is) (ends_more (bare_sign c z) (mark c (unsigned_abs z) ++ b.body)
    (ends_more (mark c (unsigned_abs z)) b.body (digits_end (base_of c.letter) b.body (small_base c.letter).1 b.some b.all)))

no_float : (l : PrintLetter) (base : Base) → bases_pair l base ≡ true → is_float_letter l ≡ false
no_float letter.Signed base e = refl
no_float letter.Unsigned base e = refl
no_float letter.Octal base e = refl
no_float letter.HexLower base e = refl
no_float letter.HexUpper base e = refl
no_float letter.Binary base e = refl
no_float letter.Text base e = absurd cc
no_float letter.One base e = absurd cc
no_float (letter.Float style upper) base e = absurd cc

bare_number : (l : PrintLetter) (base : Base) (c : PrintConv) (read : Shape) → bases_pair l base ≡ true
    → bare_first l c read ≡ number_first l (reduced c)
bare_number letter.Signed base c read e = refl
bare_number letter.Unsigned base c read e = refl
bare_number letter.Octal base c read e = refl
bare_number letter.HexLower base c read e = refl
bare_number letter.HexUpper base c read e = refl
bare_number letter.Binary base c read e = refl
bare_number letter.Text base c read e = absurd cc
bare_number letter.One base c read e = absurd cc
bare_number (letter.Float style upper) base c read e = absurd cc

number_suits : (l : PrintLetter) (base : Base) (read : Shape) → bases_pair l base ≡ true → suits_column l read ≡ true
number_suits letter.Signed base read e = refl
number_suits letter.Unsigned base read e = refl
number_suits letter.Octal base read e = refl
number_suits letter.HexLower base read e = refl
number_suits letter.HexUpper base read e = refl
number_suits letter.Binary base read e = refl
number_suits letter.Text base read e = absurd cc
number_suits letter.One base read e = absurd cc
number_suits (letter.Float style upper) base read e = absurd cc

-- the zeros of integers
integer_zeros : (c : PrintConv) (base : Base) → bases_pair c.letter base ≡ true → fills_with_zeros c ≡ pads_with_zeros c
integer_zeros c base e = ap (λ (t : Bool). c.zero && not c.minus && (t || is_none c.precision)) (no_float c.letter base e)

same_filling : (c : PrintConv) (read : Shape) (base : Base) → bases_pair c.letter base ≡ true
    → (is_strict read ≡ true → fills_with_zeros c ≡ true)
    → fills_with_blanks c read ≡ (nat_lt 0 (reduced c).width && not (pads_with_zeros (reduced c)))
same_filling c read base e strict =
    by c.minus (fills_with_zeros c) (is_strict read) strict
    ∙ ap (λ (t : Bool). nat_lt 0 (cond c.minus 0 c.width) && not t) (integer_zeros c base e ∙ sym (reduced_pads c))
  where
    none : (w : Bool) → (w && false) ≡ false
    none true = refl
    none false = refl

    open_so : (w z s : Bool) → (s ≡ true → z ≡ true) → (w && true && not z && not s) ≡ (w && not z)
    open_so true true s h = refl
    open_so true false true h = absurd (let wrong : false ≡ true = h refl in cc)
    open_so true false false h = refl
    open_so false z s h = refl

    by : (m z s : Bool) → (s ≡ true → z ≡ true) → (nat_lt 0 c.width && not m && not z && not s) ≡ (nat_lt 0 (cond m 0 c.width) && not z)
    by true z s h = ap (λ (t : Bool). t && not z && not s) (none (nat_lt 0 c.width))
    by false z s h = open_so (nat_lt 0 c.width) z s h

-- the first bytes are those of the reduced conversion
same_first : (c : PrintConv) (read : Shape) (base : Base) → bases_pair c.letter base ≡ true
    → (is_strict read ≡ true → fills_with_zeros c ≡ true) → column_first c read ≡ integer_first (reduced c)
same_first c read base e strict =
    (λ i. cond (number_suits c.letter base read e i && same_filling c read base e strict i)
    (or (only 32) (bare_number c.letter base c read e i)) (bare_number c.letter base c read e i))

module _ (laws : LawsBelow) (c : PrintConv) (s : Conversion) (proper : IsProperConv c) (p : Alike c s) (column : s.column ≡ true)
    (assigned : is_some s.slot ≡ true) where
  bare_least : (n : ℕ) → (is_none c.precision ≡ true) ⊎ (nat_lt 1 (least_digits c) ≡ false) → least_digits (reduced c) ≡ 1
  bare_least n h = by c.precision h
    where
      by : (o : Option ℕ) → (is_none o ≡ true) ⊎ (nat_lt 1 (unwrap_or o 1) ≡ false) → least_digits (reduced (record c { precision = o }))
          ≡ 1
      by None h = refl
      by (Some zero) h = refl
      by (Some (suc n)) (inl e) = absurd cc
      by (Some (suc n)) (inr e) = one_test (suc n) (omega arith) e

  auto_bare : (numeral : Numeral) → s.shape ≡ shape.Int numeral → is_auto (shape.Int numeral) ≡ true
      → (least_digits (reduced c) ≡ 1) × (pads_with_zeros (reduced c) ≡ false)
  auto_bare numeral e auto =
      let zeros = pads_with_zeros c || nat_lt 1 (least_digits c) in
      let h = or_none (pads_with_zeros c) (nat_lt 1 (least_digits c))
      (sym (ap (λ (t : Bool). t && zeros) (ap is_auto e ∙ auto)) ∙ p.no_zeros) in
      (bare_least 0 (inr h.1), reduced_pads c ∙ h.0)

  integer_column : (numeral : Numeral) → s.shape ≡ shape.Int numeral → (k : Kind) (z : ℤ) → ColumnFits c s (Number k z)
      → ReadsColumn c s (Number k z)
  integer_column numeral e k z fits =
      let of_kind : IsOfKind c.kind z = subst (λ (k : Kind). IsOfKind k z) fits.1.0 fits.1.1 in
      let small : unsigned_abs z < 2 ^ 64 = small_of c.kind (is_negative z) (unsigned_abs z) z of_kind in
      let pair = and_both (bases_pair c.letter numeral.base) (signs_pair c.letter numeral.lead)
      (ap (letters_pair c.letter) (sym e) ∙ p.letters) in
      let d : PrintConv = reduced c in
      let b : Body d z = body_of laws d z refl (reduced_least c) small in
      let strict_bare = λ (strict : is_strict_lead numeral.lead ≡ true). bare_is c s p (ap is_strict e ∙ strict) in
      let zeros = λ (strict : is_strict s.shape ≡ true). zeros_fill c s p column strict (ap is_text e) in
      let r : Reading d numeral z = reading d z b (reduced_proper c proper) of_kind numeral
      (λ strict. let k = strict_bare strict in record { plus = k.plus; blank = k.blank; alt = k.alt; decimal = k.decimal })
      (auto_bare numeral e) c.letter numeral.base refl refl pair.0 pair.1 in
      let t : List ℕ = visible d z in
      let after : ℕ = right_blanks c (counted_length c z) in
      let text : integer_text c z ≡ blanks b.before ++ (t ++ blanks after) = text_reduced laws c z small fits.1.2
      ∙ ap (λ (x : List ℕ). x ++ blanks after) (b.text_is ∙ ap (λ (x : List ℕ). blanks b.before ++ x) (sym b.visible_is))
      ∙ append_assoc (blanks b.before) t (blanks after) in
      let starts : StartsWithInk t = starts_with t (subst StartsInk (sym b.visible_is) b.ink) in
      let ends : EndsWithInk t = body_ends d z b in
      let bare = λ (strict : is_strict s.shape ≡ true). none_around numeral e z b (zeros strict) (bare_is c s p strict) pair.0 in
      let width : s.width ≡ Some c.width = column_is c s p column in
      let short : length t ≤ c.width = omega (
        arith,
        ap length text,
        length-append (blanks b.before) (t ++ blanks after),
        length-append t (blanks after),
        fits.0,
        ap (λ (o : Option ℕ). unwrap_or o 1) width,
      ) in
      let first : FirstIn (column_first c s.shape) (integer_text c z) =
      subst (λ (set : ByteTest). FirstIn set (integer_text c z)) (sym (same_first c s.shape numeral.base pair.0 zeros))
      (subst (λ (x : List ℕ). FirstIn (integer_first d) x) (sym (text_reduced laws c z small fits.1.2))
      (first_append (integer_first d) (integer_text d z) (blanks after) (integer_text_first d z b r.sign))) in
      record {
        full = fits.0;
        some = first_some _ (integer_text c z) first;
        ends = column_ends_so s (integer_text c z) t c.slot (Number k z) (padded_ink b.before after (integer_text c z) t text starts ends)
            (padded_text s b.before after (integer_text c z) t text starts ends bare)
            (ap (λ (h : Shape). shape_fills h s.width t) e ∙ ap is_some (ap integer_in r.number.is ∙ r.number.value))
            (integer_stored laws d s z numeral c.width c.slot [] e width (slot_is c s p assigned) r.number (visible_some d z b) short
            (subst (λ (k : Kind). IsOfKind k z) (kinds_are c.kind s.kind p.same) of_kind)
            ∙ ap (λ (k : Kind). Stores c.slot (Number k z)) (sym (kinds_are c.kind s.kind p.same) ∙ sym fits.1.0));
        first = first;
        first_byte = subst FirstByte (sym (text_reduced laws c z small fits.1.2)) (byte_more (integer_text d z) (blanks after)
            (first_some (integer_first d) (integer_text d z) (integer_text_first d z b r.sign)) b.first_byte);
      }
    where
      none_around : (numeral : Numeral) → s.shape ≡ shape.Int numeral → (z : ℤ) (b : Body (reduced c) z) → fills_with_zeros c ≡ true
          → IsBare c → bases_pair c.letter numeral.base ≡ true
          → (b.before ≡ 0) × (right_blanks c (counted_length c z) ≡ 0)
      none_around numeral e z b zeros k pair =
          let pads : pads_with_zeros c ≡ true = sym (integer_zeros c numeral.base pair) ∙ zeros in
          let right : c.minus ≡ false = no_minus c.zero c.minus (is_none c.precision) pads in (
            b.before_is ∙ (λ i. cond false 0 (cond ((reduced_pads c ∙ pads) i) 0 ((reduced c).width - counted_length (reduced c) z))
                + hidden_none (reduced c) z k.blank i),
            ap (λ (t : Bool). cond t (c.width - counted_length c z) 0) right,
          )
        where
          no_minus : (z m n : Bool) → (z && not m && n) ≡ true → m ≡ false
          no_minus true true n e = absurd cc
          no_minus true false n e = refl
          no_minus false m n e = absurd cc

-- ---- floats

-- what fills a width from the left
float_filling : (c : PrintConv) (x : Float) → float_is_finite x ≡ true → (l : FloatStyle) (u : Bool) → c.letter ≡ letter.Float l u
    → (read : Shape) (k : ℕ) → float_left (float_conv c) x (size_of (float_conv c) x) ≡ suc k
    → (is_strict read ≡ true → fills_with_zeros c ≡ true) → fills_with_blanks c read ≡ true
float_filling c x finite l u a read k e strict =
    ap (λ (h : PrintLetter). nat_lt 0 c.width && not c.minus && not (c.zero && not c.minus && (is_float_letter h || is_none c.precision))
    && not (is_strict read)) a
    ∙ by c.minus c.zero (is_strict read) (sym (λ i. cond c.minus 0 (cond (c.zero && not c.minus && finite i) 0
    (c.width - bare_len (float_conv c) x (size_of (float_conv c) x)))) ∙ e)
    (λ h. sym (ap (λ (l : PrintLetter). c.zero && not c.minus && (is_float_letter l || is_none c.precision)) a) ∙ strict h)
  where
    some : (w n : ℕ) → w - n ≡ suc k → nat_lt 0 w ≡ true
    some w n e = lt-ltb 0 w (omega arith)

    by : (m z s : Bool) → cond m 0 (cond (z && not m && true) 0 (c.width - bare_len (float_conv c) x (size_of (float_conv c) x))) ≡ suc k
        → (s ≡ true → (z && not m && true) ≡ true) → (nat_lt 0 c.width && not m && not (z && not m && true) && not s) ≡ true
    by true z s e h = absurd (omega (arith, e))
    by false true s e h = absurd (omega (arith, e))
    by false false true e h = absurd (let wrong : false ≡ true = h refl in cc)
    by false false false e h =
        ap (λ (t : Bool). t && true && true && true) (some c.width (bare_len (float_conv c) x (size_of (float_conv c) x)) e)

float_column_first : (c : PrintConv) (x : Float) → float_is_finite x ≡ true → (l : FloatStyle) (u : Bool) → c.letter ≡ letter.Float l u
    → (read : Shape) → (is_strict read ≡ true → fills_with_zeros c ≡ true)
    → FirstIn (column_first c read) (blanks (before (float_conv c) x) ++ body (float_conv c) x)
float_column_first c x finite l u a read strict = by (float_left (float_conv c) x (size_of (float_conv c) x)) refl
  where
    bare : bare_first c.letter c read ≡ float_digit c
    bare = ap (λ (l : PrintLetter). bare_first l c read) a

    wide : (b : ℕ) → float_digit c b ≡ true → column_first c read b ≡ true
    wide b h = by (suits_column c.letter read && fills_with_blanks c read)
      where
        by : (t : Bool) → cond t (or (only 32) (bare_first c.letter c read)) (bare_first c.letter c read) b ≡ true
        by true = or_right (only 32 b) (bare_first c.letter c read b) (ap (λ (set : ByteTest). set b) bare ∙ h)
        by false = ap (λ (set : ByteTest). set b) bare ∙ h

    by : (k : ℕ) → float_left (float_conv c) x (size_of (float_conv c) x) ≡ k
        → FirstIn (column_first c read) (blanks (k + float_hidden (float_conv c) x) ++ body (float_conv c) x)
    by (suc k) e =
        let G : ℕ → Type 0 = λ n. FirstIn (column_first c read) (blanks n ++ body (float_conv c) x) in
        let same : suc (k + float_hidden (float_conv c) x) ≡ suc k + float_hidden (float_conv c) x = omega arith in
        subst G same (λ i. cond (ap (λ (h : PrintLetter). suits_column h read) a i && float_filling c x finite l u a read k e strict i)
        (or (only 32) (bare_first c.letter c read)) (bare_first c.letter c read) 32)
    by zero e =
        let G : ℕ → Type 0 = λ n. FirstIn (column_first c read) (blanks n ++ body (float_conv c) x) in
        let same : float_hidden (float_conv c) x ≡ zero + float_hidden (float_conv c) x = omega arith in
        subst G same (first_weaker (float_digit c) (column_first c read) (blanks (float_hidden (float_conv c) x) ++ body (float_conv c) x)
        wide (sign_first (is_sign_negative x) c.plus c.blank (after_sign (float_conv c) x) (digit_follows (float_conv c) x finite)))

not_white : (a : ℕ) (xs ys : List ℕ) → StartsInk xs → are_white (blanks a ++ (xs ++ ys)) ≡ false
not_white zero [] ys h = absurd h
not_white zero (b ∷ xs) ys h = ap (λ (t : Bool). t && are_white (xs ++ ys)) h
not_white (suc a) xs ys h = not_white a xs ys h

-- with `!` nothing stands around the number
float_bare : (c : PrintConv) (x : Float) → float_is_finite x ≡ true → fills_with_zeros c ≡ true → IsBare c
    → (before (float_conv c) x ≡ 0) × (float_right (float_conv c) x (size_of (float_conv c) x) ≡ 0)
float_bare c x finite zeros k =
    let h = both c.zero c.minus (is_float_letter c.letter || is_none c.precision) zeros in (
      (λ i. cond c.minus 0 (cond (h.0 i && not (h.1 i) && finite i) 0 (c.width - bare_len (float_conv c) x (size_of (float_conv c) x)))
          + float_hidden (float_conv c) x) ∙ none c.minus (is_sign_negative x) c.plus c.blank k.blank,
      ap (λ (t : Bool). cond t (c.width - bare_len (float_conv c) x (size_of (float_conv c) x)) 0) h.1,
    )
  where
    both : (z m n : Bool) → (z && not m && n) ≡ true → (z ≡ true) × (m ≡ false)
    both true true n e = absurd cc
    both true false n e = (refl, refl)
    both false m n e = absurd cc

    none : (m n p b : Bool) → b ≡ false → ◌≡◌ {A = ℕ} (cond m 0 0 + cond n 0 (cond p 0 (cond b 1 0))) 0
    none true true p b e = refl
    none true false true b e = refl
    none true false false true e = absurd cc
    none true false false false e = refl
    none false true p b e = refl
    none false false true b e = refl
    none false false false true e = absurd cc
    none false false false false e = refl

module _ (c : PrintConv) (s : Conversion) (p : Alike c s) (column : s.column ≡ true) (lead : Lead) (e : s.shape ≡ shape.Float lead) where
  zeros_so : is_strict s.shape ≡ true → fills_with_zeros c ≡ true
  zeros_so strict = zeros_fill c s p column strict (ap is_text e)

  -- the text is the number without what stands around it
  pub float_column_text : (x : Float) → float_is_finite x ≡ true → EndsWithInk (body (float_conv c) x)
      → column_text s (float_text (float_conv c) x) ≡ body (float_conv c) x
  float_column_text x finite ends =
      padded_text s (before (float_conv c) x) (float_right (float_conv c) x (size_of (float_conv c) x)) (float_text (float_conv c) x)
      (body (float_conv c) x) (text_is_all (float_conv c) x finite) (starts_with _ (body_ink (float_conv c) x finite)) ends
      (λ strict. float_bare c x finite (zeros_so strict) (bare_is c s p strict))

  -- with `!` it is the whole text
  strict_text : (x : Float) → float_is_finite x ≡ true → is_strict_lead lead ≡ true
      → column_text s (float_text (float_conv c) x) ≡ body (float_conv c) x
  strict_text x finite is =
      let strict : is_strict s.shape ≡ true = ap is_strict e ∙ is in
      let none = float_bare c x finite (zeros_so strict) (bare_is c s p strict) in
      let X : List ℕ = float_text (float_conv c) x in
      ap (λ (t : Bool). cond t X (trimmed X)) strict ∙ text_is_all (float_conv c) x finite
      ∙ (λ i. blanks (none.0 i) ++ (body (float_conv c) x ++ blanks (none.1 i))) ∙ append-nil (body (float_conv c) x)

module _ (laws : LawsBelow) (c : PrintConv) (s : Conversion) (p : Alike c s) (column : s.column ≡ true) (assigned : is_some s.slot ≡ true)
    (l : FloatStyle) (u : Bool) (a : c.letter ≡ letter.Float l u) (lead : Lead) (e : s.shape ≡ shape.Float lead) where
  real_fills : (x : Float) → float_is_finite x ≡ true → is_float (column_text s (float_text (float_conv c) x)) ≡ true
      → fills s (column_text s (float_text (float_conv c) x)) ≡ true
  real_fills x finite matching = ap (λ (h : Shape). shape_fills h s.width t) e ∙ by (is_strict_lead lead) refl
    where
      t : List ℕ
      t = column_text s (float_text (float_conv c) x)

      any_so : (k : Lead) → is_strict_lead k ≡ false
          → shape_matches (shape.Float k) s.width (column_text s (float_text (float_conv c) x)) ≡ true
      any_so Any h = matching
      any_so Minus h = absurd cc
      any_so Nothing h = absurd cc

      by : (strict : Bool) → is_strict_lead lead ≡ strict
          → shape_matches (shape.Float lead) s.width (column_text s (float_text (float_conv c) x)) ≡ true
      by false h = any_so lead h
      by true h =
          let same = strict_text c s p column lead e x finite h in
          let w : FloatRead lead c (body (float_conv c) x) = float_read c u x finite (sym (ap is_float same) ∙ matching) lead l a
          (λ strict. bare_is c s p (ap is_strict e ∙ strict)) in
          ap (shape_matches (shape.Float lead) s.width) same ∙ (ap is_whole_at w.is ∙ w.whole)

  real_column : (r : real.Real) → ColumnFits c s (Real r) → ReadsColumn c s (Real r)
  real_column (reals.F32 bits) fits = absurd fits.1
  real_column (reals.F64 bits) fits =
      let f : FloatConv = float_conv c in
      let x : Float = from_bits binary64 bits in
      let finite : float_is_finite x ≡ true = fits.1.1 in
      let X : List ℕ = real_text c (reals.F64 bits) in
      let t : List ℕ = column_text s X in
      let after : List ℕ = blanks (float_right f x (size_of f x)) in
      let text : X ≡ blanks (before f x) ++ (body f x ++ after) = text_is_all f x finite in
      let computed = (laws.stored binary64 t).1 (Some bits) fits.1.2 in
      let matching : is_float t ≡ true = (laws.floats forms.All t).0.1 computed.0 in
      let double : s.kind ≡ kind.F64 = sym (kinds_are c.kind s.kind p.same) ∙ fits.1.0 in
      let again : X ≡ (blanks (before f x) ++ body f x) ++ after = text ∙ sym (append_assoc (blanks (before f x)) (body f x) after) in
      let bare : FirstIn (column_first c s.shape) (blanks (before f x) ++ body f x) =
      float_column_first c x finite l u a s.shape (zeros_so c s p column lead e) in
      let first : FirstIn (column_first c s.shape) X = subst (λ (t : List ℕ). FirstIn (column_first c s.shape) t) (sym again)
      (first_append (column_first c s.shape) (blanks (before f x) ++ body f x) after bare) in
      record {
        full = fits.0;
        some = first_some _ X first;
        ends = column_ends_so s X t c.slot (Real (reals.F64 bits)) (ap are_white text ∙ not_white (before f x) (body f x) after
            (body_ink f x finite)) refl (real_fills x finite matching)
            (ap (λ (o : Option ℕ). passed_end s o t) (slot_is c s p assigned)
            ∙ ap (λ (h : Shape). stored_end s c.slot h t) e
            ∙ ap (λ (k : Kind). real_end c.slot (cond (is_float t) (real_in k t) None)) double
            ∙ ap (λ (v : Bool). real_end c.slot (cond v (option_map reals.F64 (stored_in binary64 t)) None)) matching
            ∙ ap (λ (o : Option ℕ). real_end c.slot (option_map reals.F64 o)) (sym computed.1));
        first = first;
        first_byte = subst FirstByte (sym again) (byte_more (blanks (before f x) ++ body f x) after
            (first_some (column_first c s.shape) (blanks (before f x) ++ body f x) bare)
            (blanks_byte (before f x) (body f x) (body_byte f x finite)));
      }

-- ---- texts

some_test : (n : ℕ) → 0 < n → nat_lt 0 n ≡ true
some_test n h = grind (arith, nat_tests)

uncut_is : (o : Option ℕ) (bytes : List ℕ) → IsUncut o bytes → first_bytes o bytes ≡ bytes
uncut_is None bytes h = refl
uncut_is (Some most) bytes h = take_all most bytes h

-- a text with its padding
bytes_parts : (c : PrintConv) (bytes : List ℕ) → c.letter ≡ letter.Text → IsUncut c.precision bytes
    → bytes_text c bytes ≡ blanks (cond c.minus 0 (c.width - length bytes)) ++ (bytes ++ blanks (cond c.minus (c.width - length bytes) 0))
bytes_parts c bytes l uncut =
    ap (padded c) (ap (λ (l : PrintLetter). shown_bytes l c.precision bytes) l ∙ uncut_is c.precision bytes uncut)
    ∙ append_assoc (blanks (cond c.minus 0 (c.width - length bytes))) bytes (blanks (cond c.minus (c.width - length bytes) 0))

-- what is known of a text that stands in a column
record Standing (c : PrintConv) (s : Conversion) (bytes : List ℕ) : Type 0 where
  suits : suits_column letter.Text s.shape ≡ true
  starts : FirstIn (inked_first s.shape) bytes
  ink : StartsWithInk bytes
  ends : EndsWithInk bytes
  full : is_strict s.shape ≡ true → c.width - length bytes ≡ 0
  filled : fills s bytes ≡ true
  stored : (slot : ℕ) → s.slot ≡ Some slot → passed_end s s.slot bytes ≡ Stores slot (Bytes bytes)

ink_first : (bytes : List ℕ) → StartsWithInk bytes → FirstIn is_ink bytes
ink_first [] h = absurd h
ink_first (b ∷ bs) h = ap not h

member_first : (members : List Bool) (bytes : List ℕ) → StartsWithInk bytes → AllByRecursion (λ b. has_byte members b ≡ true) bytes
    → FirstIn (inked_first (shape.Set members)) bytes
member_first members [] h all = absurd h
member_first members (b ∷ bs) h all = and_so (has_byte members b) (is_ink b) all.0 (ap not h)

module _ (c : PrintConv) (s : Conversion) (proper : IsProperConv c) (wide : IsProperWidth s.width) (p : Alike c s)
    (column : s.column ≡ true) (assigned : is_some s.slot ≡ true) (bytes : List ℕ) where
  width_low : 0 < width_of s
  width_low = by s.width wide
    where
      by : (o : Option ℕ) → IsProperWidth o → 0 < unwrap_or o 1
      by None h = omega arith
      by (Some w) h = omega (arith, h)

  same_width : width_of s ≡ c.width
  same_width = ap (λ (o : Option ℕ). unwrap_or o 1) (column_is c s p column)

  standing_text : (lead : Lead) → s.shape ≡ shape.Text lead → StandsApart (is_strict_lead lead) (width_of s) bytes → Standing c s bytes
  standing_text lead e h = by (is_strict_lead lead) refl h
    where
      starts_so : StartsWithInk bytes → FirstIn (inked_first s.shape) bytes
      starts_so ink = subst (λ (h : Shape). FirstIn (inked_first h) bytes) (sym e) (inked bytes ink)
        where
          inked : (bytes : List ℕ) → StartsWithInk bytes → FirstIn (inked_first (shape.Text lead)) bytes
          inked [] h = absurd h
          inked (b ∷ bs) h = ap not h

      by : (strict : Bool) → is_strict_lead lead ≡ strict → StandsApart strict (width_of s) bytes → Standing c s bytes
      by true is h =
          let some : 0 < length bytes = omega (arith, h.0, width_low) in
          let ends : EndsWithInk bytes = all_end bytes some h.1 in
          let ink : StartsWithInk bytes = all_starts bytes some h.1 in
          record {
            suits = ap (suits_column letter.Text) e;
            starts = starts_so ink;
            ink = ink;
            ends = ends;
            full = λ strict. omega (arith, h.0, same_width);
            filled = ap (λ (h : Shape). shape_fills h s.width bytes) e
                ∙ ap (λ (t : Bool). not t || (nat_lt 0 (length bytes) && list_all is_ink bytes)) is
                ∙ and_so (nat_lt 0 (length bytes)) (list_all is_ink bytes) (some_test (length bytes) some)
                ((all_is is_ink (λ b. is_white b ≡ false) ink_is bytes).1 h.1);
            stored = λ slot at. text_stored s lead slot bytes at e;
          }
        where
          all_starts : (bytes : List ℕ) → 0 < length bytes → AllByRecursion (λ b. is_white b ≡ false) bytes → StartsWithInk bytes
          all_starts [] some all = absurd (omega arith)
          all_starts (b ∷ bs) some all = all.0
      by false is h = record {
        suits = ap (suits_column letter.Text) e;
        starts = starts_so h.starts;
        ink = h.starts;
        ends = h.ends;
        full = λ strict. absurd (true≢false (sym strict ∙ ap is_strict e ∙ is));
        filled = ap (λ (h : Shape). shape_fills h s.width bytes) e
            ∙ ap (λ (t : Bool). not t || (nat_lt 0 (length bytes) && list_all is_ink bytes)) is;
        stored = λ slot at. text_stored s lead slot bytes at e;
      }

  standing_set : (members : List Bool) → s.shape ≡ shape.Set members → IsTrimmed bytes bytes
      → AllByRecursion (λ b. has_byte members b ≡ true) bytes → Standing c s bytes
  standing_set members e h all = record {
    suits = ap (suits_column letter.Text) e;
    starts = subst (λ (h : Shape). FirstIn (inked_first h) bytes) (sym e) (member_first members bytes h.starts all);
    ink = h.starts;
    ends = h.ends;
    full = λ strict. absurd (true≢false (sym strict ∙ ap is_strict e));
    filled = ap (λ (h : Shape). shape_fills h s.width bytes) e
        ∙ and_so (nat_lt 0 (length bytes)) (list_all (has_byte members) bytes) (some_test (length bytes) (ends_some bytes h.ends))
        ((all_is (has_byte members) (λ b. has_byte members b ≡ true) (λ b. (λ h. h, λ h. h)) bytes).1 all);
    stored = λ slot at. set_stored s members slot bytes at e;
  }

  text_column : c.letter ≡ letter.Text → Standing c s bytes → ColumnFits c s (Bytes bytes) → ReadsColumn c s (Bytes bytes)
  text_column l k fits =
      let left : ℕ = cond c.minus 0 (c.width - length bytes) in
      let right : ℕ = cond c.minus (c.width - length bytes) 0 in
      let text : bytes_text c bytes ≡ blanks left ++ (bytes ++ blanks right) = bytes_parts c bytes l fits.1.1 in
      let first : FirstIn (column_first c s.shape) (bytes_text c bytes) =
      subst (λ (t : List ℕ). FirstIn (column_first c s.shape) t) (sym text) (padded_first left refl
      (first_append (inked_first s.shape) bytes (blanks right) k.starts)) in
      record {
        full = fits.0;
        some = first_some _ (bytes_text c bytes) first;
        ends = column_ends_so s (bytes_text c bytes) bytes c.slot (Bytes bytes)
            (padded_ink left right (bytes_text c bytes) bytes text k.ink k.ends)
            (padded_text s left right (bytes_text c bytes) bytes text k.ink k.ends (λ strict. none_around c.minus (k.full strict))) k.filled
            (k.stored c.slot (slot_is c s p assigned));
        first = first;
        first_byte = subst FirstByte (sym text) (blanks_byte left (bytes ++ blanks right)
            (byte_more bytes (blanks right) (ends_some bytes k.ends) (text_byte bytes fits.1.0)));
      }
    where
      none_around : (m : Bool) → c.width - length bytes ≡ 0
          → (cond m 0 (c.width - length bytes) ≡ 0) × (cond m (c.width - length bytes) 0 ≡ 0)
      none_around true e = (refl, e)
      none_around false e = (e, refl)

      inked : bare_first c.letter c s.shape ≡ inked_first s.shape
      inked = ap (λ (l : PrintLetter). bare_first l c s.shape) l

      no_zeros : fills_with_zeros c ≡ false
      no_zeros = ap (λ (t : Bool). t && not c.minus && (is_float_letter c.letter || is_none c.precision))
          (proper.zero (ap (λ (l : PrintLetter). has_flag l 48) l))

      filling : (n : ℕ) → cond c.minus 0 (c.width - length bytes) ≡ suc n → fills_with_blanks c s.shape ≡ true
      filling n e = ap (λ (t : Bool). nat_lt 0 c.width && not c.minus && not t && not (is_strict s.shape)) no_zeros
          ∙ by c.minus (is_strict s.shape) e k.full
        where
          some : (w n m : ℕ) → w - n ≡ suc m → nat_lt 0 w ≡ true
          some w n m e = lt-ltb 0 w (omega arith)

          by : (m t : Bool) → cond m 0 (c.width - length bytes) ≡ suc n → (t ≡ true → c.width - length bytes ≡ 0)
              → (nat_lt 0 c.width && not m && true && not t) ≡ true
          by true t e h = absurd (omega (arith, e))
          by false true e h = absurd (omega (arith, e, h refl))
          by false false e h = ap (λ (t : Bool). t && true && true && true) (some c.width (length bytes) n e)

      padded_first : (n : ℕ) → cond c.minus 0 (c.width - length bytes) ≡ n
          → FirstIn (inked_first s.shape) (bytes ++ blanks (cond c.minus (c.width - length bytes) 0))
          → FirstIn (column_first c s.shape) (blanks n ++ (bytes ++ blanks (cond c.minus (c.width - length bytes) 0)))
      padded_first (suc n) e f =
          λ i. cond ((ap (λ (h : PrintLetter). suits_column h s.shape) l ∙ k.suits) i && filling n e i)
          (or (only 32) (bare_first c.letter c s.shape)) (bare_first c.letter c s.shape) 32
      padded_first zero e f = first_weaker (inked_first s.shape) (column_first c s.shape) _ reached f
        where
          reached : (b : ℕ) → inked_first s.shape b ≡ true → column_first c s.shape b ≡ true
          reached b h = by (suits_column c.letter s.shape && fills_with_blanks c s.shape)
            where
              by : (t : Bool) → cond t (or (only 32) (bare_first c.letter c s.shape)) (bare_first c.letter c s.shape) b ≡ true
              by true = or_right (only 32 b) (bare_first c.letter c s.shape b) (ap (λ (set : ByteTest). set b) inked ∙ h)
              by false = ap (λ (set : ByteTest). set b) inked ∙ h

-- ---- each conversion

pub column_reads_back : LawsBelow → (c : PrintConv) (s : Conversion) (v : Datum) → IsProperConv c → IsProperWidth s.width → Alike c s
    → s.column ≡ true → is_some s.slot ≡ true → ColumnFits c s v → ReadsColumn c s v
column_reads_back laws c s v proper width p column assigned fits = by c.letter s.shape refl refl p.letters v fits
  where
    none_of : (l : PrintLetter) → c.letter ≡ l → ((k : Kind) → prints_kind l k ≡ true → is_text_kind k ≡ true) → (k : Kind) (z : ℤ)
        → ColumnFits c s (Number k z) → ⊥
    none_of l a text k z f = no_number c.kind z (text c.kind (ap (λ (l : PrintLetter). prints_kind l c.kind) (sym a) ∙ proper.kind))
        (subst (λ (k : Kind). IsOfKind k z) f.1.0 f.1.1)

    not_double : (l : PrintLetter) → c.letter ≡ l → prints_kind l kind.F64 ≡ false → (r : real.Real) → RealStands c s r → ⊥
    not_double l a none (reals.F32 bits) f = f
    not_double l a none (reals.F64 bits) f =
        true≢false (sym ((λ i. prints_kind (sym a i) (sym f.0 i)) ∙ proper.kind) ∙ none)

    no_text : (h : Shape) → s.shape ≡ h → (bytes : List ℕ) → (TextStands h (width_of s) bytes → ⊥) → ColumnFits c s (Bytes bytes) → ⊥
    no_text h e bytes never f = never (subst (λ (h : Shape). TextStands h (width_of s) bytes) e f.1.2)

    by : (l : PrintLetter) (h : Shape) → c.letter ≡ l → s.shape ≡ h → letters_pair l h ≡ true → (v : Datum) → ColumnFits c s v
        → ReadsColumn c s v
    by l (shape.Int numeral) a e pair (Number k z) f = integer_column laws c s proper p column assigned numeral e k z f
    by l (shape.Int numeral) a e pair (Bytes bytes) f = absurd (no_text (shape.Int numeral) e bytes (λ h. h) f)
    by letter.Text (shape.Text lead) a e pair (Bytes bytes) f = text_column c s proper width p column assigned bytes a
        (standing_text c s proper width p column assigned bytes lead e (subst (λ (h : Shape). TextStands h (width_of s) bytes) e f.1.2)) f
    by letter.Text (shape.Set members) a e pair (Bytes bytes) f =
        let h : IsTrimmed bytes bytes × AllByRecursion (λ b. has_byte members b ≡ true) bytes =
        subst (λ (h : Shape). TextStands h (width_of s) bytes) e f.1.2 in
        text_column c s proper width p column assigned bytes a (standing_set c s proper width p column assigned bytes members e h.0 h.1) f
    by letter.Text shape.Chars a e pair (Bytes bytes) f = absurd (no_text shape.Chars e bytes (λ h. h) f)
    by letter.One shape.Chars a e pair (Bytes bytes) f = absurd (no_text shape.Chars e bytes (λ h. h) f)
    by letter.Text h a e pair (Number k z) f = absurd (none_of letter.Text a (λ k h. h) k z f)
    by letter.One h a e pair (Number k z) f = absurd (none_of letter.One a (λ k h. h) k z f)
    by (letter.Float style upper) (shape.Float lead) a e pair (Real r) f =
        real_column laws c s p column assigned style upper a lead e r f
    by (letter.Float style upper) (shape.Float lead) a e pair (Number k z) f =
        absurd (no_number_of_double c.kind z (ap (λ (l : PrintLetter). prints_kind l c.kind) (sym a) ∙ proper.kind)
        (subst (λ (k : Kind). IsOfKind k z) f.1.0 f.1.1))
    by (letter.Float style upper) (shape.Float lead) a e pair (Bytes bytes) f = absurd (no_text (shape.Float lead) e bytes (λ h. h) f)
    by letter.Signed h a e pair (Real r) f = absurd (not_double letter.Signed a refl r f.1)
    by letter.Unsigned h a e pair (Real r) f = absurd (not_double letter.Unsigned a refl r f.1)
    by letter.Octal h a e pair (Real r) f = absurd (not_double letter.Octal a refl r f.1)
    by letter.HexLower h a e pair (Real r) f = absurd (not_double letter.HexLower a refl r f.1)
    by letter.HexUpper h a e pair (Real r) f = absurd (not_double letter.HexUpper a refl r f.1)
    by letter.Binary h a e pair (Real r) f = absurd (not_double letter.Binary a refl r f.1)
    by letter.Text h a e pair (Real r) f = absurd (not_double letter.Text a refl r f.1)
    by letter.One h a e pair (Real r) f = absurd (not_double letter.One a refl r f.1)
    by _ _ a e pair v f = absurd cc
