-- What a conversion prints of a value that fits, the scan's conversion reads back.
use Rattle.std.proofs.Common.{◌≡◌, ℕ, zero, suc, ◌+◌, ◌-◌, ◌<◌, ◌≤◌, ◌⊎◌, inl, inr, Bool, true, false, cond, eqb, ltb, ◌&&◌, ◌||◌, nat_lt}
use Rattle.std.proofs.Common.{List}
use Rattle.std.proofs.Common.{[], ◌∷◌, ◌++◌, length, ℤ, pos, negsuc, unsigned_abs, Option, Some, None, is_some, unwrap_or, refl, sym, ap}
use Rattle.std.proofs.Common.{subst}
use Rattle.std.proofs.Common.{◌∙◌, arith, append-nil, lit≤, true≢false}
use Rattle.std.specs.Prelude.{not, IsSome}
use Rattle.std.proofs.lemmas.Bool.{eqb-true, lt-ltb}
use Rattle.std.proofs.lemmas.Bool.Decides.{nat_tests}
use Rattle.std.specs.List.{AllByRecursion}
use Rattle.sf_base.specs.Bytes.{AreBytes, is_white}
use Rattle.sf_base.specs.Sets.{has_byte}
use Rattle.sf_base.specs.declared.real.Real as real
use Rattle.sf_base.specs.declared.real.Real.TheVariants as reals
use Rattle.sf_base.specs.declared.values.Kind.{Kind}
use Rattle.sf_base.specs.declared.values.Kind.TheVariants as kind
use Rattle.sf_base.specs.Data.{Datum, Number, Bytes, Real}
use Rattle.sf_format.specs.declared.directive.Base.{Base}
use Rattle.sf_format.specs.declared.directive.Lead.{Lead}
use Rattle.sf_format.specs.declared.directive.Lead.TheVariants.{Any, Minus, Nothing}
use Rattle.sf_format.specs.declared.directive.Numeral.{Numeral}
use Rattle.sf_format.specs.declared.directive.Base.TheVariants.{Dec, Oct, Hex, Bin, Auto, AutoBin}
use Rattle.sf_format.specs.declared.directive.Shape.{Shape}
use Rattle.sf_format.specs.declared.directive.Shape.TheVariants as shape
use Rattle.sf_format.specs.declared.directive.Conversion.{Conversion}
use Rattle.sf_format.specs.declared.unit.PrintConv.{PrintConv}
use Rattle.sf_format.specs.declared.unit.PrintLetter.{PrintLetter}
use Rattle.sf_format.specs.declared.unit.PrintLetter.TheVariants as letter
use Rattle.sf_format.specs.Leads.{has_minus, is_strict_lead, is_strict}
use Rattle.sf_format.specs.Units.{IsProperConv, has_flag, prints_kind, is_unsigned, is_double, is_text as is_text_kind}
use Rattle.sf_format.specs.Proper.{IsProperWidth, HasItsWidth}
use Rattle.sf_item.specs.Radices.{radices}
use Rattle.sf_item.specs.Tests.{is_ink}
use Rattle.sf_print.specs.texts.Text.{integer_text, bytes_text, shown_bytes, padded, blanks, base_of, base_mark, is_octal, least_digits}
use Rattle.sf_print.specs.texts.Text.{pads_with_zeros}
use Rattle.sf_report.specs.Steps.{Stores}
use Rattle.sf_report.specs.Machine.{shape_skips}
use Rattle.sf_print.specs.texts.Visible.{visible, least}
use Rattle.sf_pair.specs.conversions.Below.{LawsBelow}
use Rattle.sf_pair.specs.conversions.Neighbours.{Bytes as ByteTest, stop_set, integer_first, first_by_letter, only, or, any_byte}
use Rattle.sf_pair.specs.conversions.Neighbours.{is_auto_base}
use Rattle.sf_pair.specs.Groups.{is_integer, is_number, is_text, is_chars, is_auto, bases_pair, signs_pair, letters_pair, width_of}
use Rattle.sf_pair.specs.Groups.{least_by, always_full}
use Rattle.sf_pair.specs.Fits.{is_negative, IsOfKind, TextFits, RealFits, ItemFits}
use Rattle.sf_pair.proofs.ConversionLemmas.Bodies.{StartsInk, FirstByte, blanks_byte, Body, body_of}
use Rattle.sf_pair.proofs.ConversionLemmas.Parts.{hidden, counted_length}
use Rattle.sf_pair.proofs.Numbers.{Leads, NumberRead, HasMark, read_decimal, read_octal, read_marked, read_auto}
use Rattle.sf_pair.proofs.ConversionLemmas.Shortest.{least_is_shortest, visible_some}
use Rattle.sf_pair.proofs.Back.{SkipsSo, skips_by, ReadsBack}
use Rattle.sf_pair.proofs.ReadReals.{real_reads_back}
use Rattle.sf_pair.proofs.ConversionLemmas.Firsts.{FirstIn, first_weaker, or_right, NoSign, SignFits, integer_text_first}
use Rattle.sf_pair.proofs.Taken.{FirstOut, integer_takes, integer_stored}
use Rattle.sf_pair.proofs.TakenTexts.{text_takes, set_takes, chars_takes, text_stored, set_stored, chars_stored}
use Rattle.sf_pair.proofs.Paired.{full_by, or_none, and_both, IsBare, IsPlain, Pairs, plain_is, none_padded, no_left, kinds_are, slot_is}
use Rattle.sf_pair.proofs.Paired.{width_is}
use Rattle.sf_pair.proofs.Paired.{small_of, unsigned_number, no_number_of_text}

-- ---- integers

zero_test : (n : ℕ) → eqb n 0 ≡ false → 0 < n
zero_test n e = grind (arith, nat_tests)

pub one_test : (n : ℕ) → 0 < n → nat_lt 1 n ≡ false → n ≡ 1
one_test n some e = grind (arith, nat_tests)

no_sign : (c : PrintConv) (z : ℤ) → IsProperConv c → IsOfKind c.kind z → (l : PrintLetter) → c.letter ≡ l → has_flag l 43 ≡ false
    → has_flag l 32 ≡ false → ((k : Kind) → prints_kind l k ≡ true → is_unsigned k ≡ true) → NoSign c z
no_sign c z proper kind l e plus blank unsigned =
    let n = unsigned_number c.kind (unsigned c.kind (ap (λ (l : PrintLetter). prints_kind l c.kind) (sym e) ∙ proper.kind)) z kind in
    record {
      plus = proper.plus (ap (λ (l : PrintLetter). has_flag l 43) e ∙ plus);
      blank = proper.blank (ap (λ (l : PrintLetter). has_flag l 32) e ∙ blank);
      number = n.0;
      value = n.1;
    }

-- what a letter and a base that pair say of a number
pub record Reading (c : PrintConv) (numeral : Numeral) (z : ℤ) : Type 0 where
  pub leads : Leads numeral.lead c z
  pub number : NumberRead numeral c z
  pub sign : SignFits c z
  pub first : (s : Shape) → first_by_letter c.letter c s ≡ integer_first c

-- what stands before the digits may stand there
leads_by : (c : PrintConv) (z : ℤ) (lead : Lead) → (is_strict_lead lead ≡ true → IsBare c)
    → (has_minus lead ≡ true) ⊎ (is_negative z ≡ false) → Leads lead c z
leads_by c z Any plain minus = record { plus = inl refl; minus = inl refl; prefix = inl refl }
leads_by c z Minus plain minus = let k = plain refl in record { plus = inr k.plus; minus = inl refl; prefix = inl refl }
leads_by c z Nothing plain minus = let k = plain refl in record { plus = inr k.plus; minus = minus; prefix = inr k.alt }

-- a letter's mark is that of its base
has_mark : (c : PrintConv) (numeral : Numeral) (l : PrintLetter) (base : Base) → c.letter ≡ l → numeral.base ≡ base → HasMark base l
    → HasMark numeral.base c.letter
has_mark c numeral l base a e k = subst (λ (l : PrintLetter). HasMark numeral.base l) (sym a) (subst (λ (b : Base). HasMark b l) (sym e) k)

first_is : (c : PrintConv) (l : PrintLetter) → c.letter ≡ l → ((s : Shape) → first_by_letter l c s ≡ integer_first c) → (s : Shape)
    → first_by_letter c.letter c s ≡ integer_first c
first_is c l e h s = ap (λ (l : PrintLetter). first_by_letter l c s) e ∙ h s

module _ (c : PrintConv) (z : ℤ) (b : Body c z) (proper : IsProperConv c) (kind : IsOfKind c.kind z) (numeral : Numeral)
    (plain : is_strict_lead numeral.lead ≡ true → IsBare c)
    (auto : is_auto (shape.Int numeral) ≡ true → (least_digits c ≡ 1) × (pads_with_zeros c ≡ false)) where
  -- of `d i`
  signed_reading : c.letter ≡ letter.Signed → has_minus numeral.lead ≡ true → (Leads numeral.lead c z → NumberRead numeral c z)
      → Reading c numeral z
  signed_reading a minus number =
      let k = leads_by c z numeral.lead plain (inl minus) in
      record { leads = k; number = number k; sign = inl a; first = first_is c letter.Signed a (λ s. refl) }

  auto_reading : (base : Base) → c.letter ≡ letter.Signed → has_minus numeral.lead ≡ true → numeral.base ≡ base
      → is_auto_base base ≡ true → (radices base).first ≡ 10 → Reading c numeral z
  auto_reading base a minus e is ten =
      let is_it : is_auto_base numeral.base ≡ true = ap is_auto_base e ∙ is in
      let k = auto is_it in
      signed_reading a minus (λ leads. read_auto c z b numeral leads is_it (ap (λ (b : Base). (radices b).first) e ∙ ten) (ap base_of a)
      (ap base_mark a) (ap is_octal a) k.0 k.1)

  -- of the others
  unsigned_reading : (n : NoSign c z) → ((s : Shape) → first_by_letter c.letter c s ≡ integer_first c)
      → (Leads numeral.lead c z → NumberRead numeral c z) → Reading c numeral z
  unsigned_reading n first number =
      let k = leads_by c z numeral.lead plain (inr (ap is_negative n.value)) in
      record { leads = k; number = number k; sign = inr n; first = first }

  marked_reading : NoSign c z → HasMark numeral.base c.letter → Leads numeral.lead c z → NumberRead numeral c z
  marked_reading n k leads = subst (NumberRead numeral c) (sym n.value)
      (read_marked c n.number (subst (Body c) n.value b) numeral (subst (Leads numeral.lead c) n.value leads) k n.plus)

  pub reading : (l : PrintLetter) (base : Base) → c.letter ≡ l → numeral.base ≡ base → bases_pair l base ≡ true
      → signs_pair l numeral.lead ≡ true → Reading c numeral z
  reading letter.Signed Dec a e pair sign =
      signed_reading a sign (λ k. read_decimal c z b numeral e k (ap base_of a) (ap base_mark a))
  reading letter.Signed Auto a e pair sign = auto_reading Auto a sign e refl refl
  reading letter.Signed AutoBin a e pair sign = auto_reading AutoBin a sign e refl refl
  reading letter.Unsigned Dec a e pair sign =
      unsigned_reading (no_sign c z proper kind letter.Unsigned a refl refl (λ k h. h)) (first_is c letter.Unsigned a (λ s. refl))
      (λ k. read_decimal c z b numeral e k (ap base_of a) (ap base_mark a))
  reading letter.Octal Oct a e pair sign =
      unsigned_reading (no_sign c z proper kind letter.Octal a refl refl (λ k h. h)) (first_is c letter.Octal a (λ s. refl))
      (λ k. read_octal c z b numeral e k (ap base_of a) (ap base_mark a))
  reading letter.HexLower Hex a e pair sign =
      let n = no_sign c z proper kind letter.HexLower a refl refl (λ k h. h) in
      unsigned_reading n (first_is c letter.HexLower a (λ s. refl)) (marked_reading n (has_mark c numeral letter.HexLower Hex a e
      (record { byte = 120; mark = refl; radix = refl; first = refl; zero = refl; small = lit≤ tt })))
  reading letter.HexUpper Hex a e pair sign =
      let n = no_sign c z proper kind letter.HexUpper a refl refl (λ k h. h) in
      unsigned_reading n (first_is c letter.HexUpper a (λ s. refl)) (marked_reading n (has_mark c numeral letter.HexUpper Hex a e
      (record { byte = 88; mark = refl; radix = refl; first = refl; zero = refl; small = lit≤ tt })))
  reading letter.Binary Bin a e pair sign =
      let n = no_sign c z proper kind letter.Binary a refl refl (λ k h. h) in
      unsigned_reading n (first_is c letter.Binary a (λ s. refl)) (marked_reading n (has_mark c numeral letter.Binary Bin a e
      (record { byte = 98; mark = refl; radix = refl; first = refl; zero = refl; small = lit≤ tt })))
  reading _ _ a e pair sign = absurd cc

-- no blank stands before it
pub hidden_none : (c : PrintConv) (z : ℤ) → c.blank ≡ false → hidden c z ≡ 0
hidden_none c (negsuc n) e = refl
hidden_none c (pos n) e = by c.plus c.blank e
  where
    by : (p b : Bool) → b ≡ false → ◌≡◌ {A = ℕ} (cond p 0 (cond b 1 0)) 0
    by true b e = refl
    by false true e = absurd cc
    by false false e = refl

none_before : (c : PrintConv) (z : ℤ) (b : Body c z) → IsPlain c → b.before ≡ 0
none_before c z b k =
    b.before_is
    ∙ (λ i. no_left c.minus (pads_with_zeros c) c.width (counted_length c z) k.unpadded i + hidden_none c z k.bare.blank i)

module _ (laws : LawsBelow) (c : PrintConv) (s : Conversion) (proper : IsProperConv c) (p : Pairs c s)
    (assigned : is_some s.slot ≡ true) where
  at_int : (numeral : Numeral) → s.shape ≡ shape.Int numeral → is_integer s.shape ≡ true
  at_int numeral e = ap is_integer e

  int_full : (numeral : Numeral) → s.shape ≡ shape.Int numeral → always_full c s ≡ true → length (least c) ≡ width_of s
  int_full numeral e full = eqb-true (length (least c)) (width_of s) (sym (ap (full_by c s) e) ∙ full)

  pub auto_bare : (numeral : Numeral) → s.shape ≡ shape.Int numeral → 0 < least_digits c → is_auto (shape.Int numeral) ≡ true
      → (least_digits c ≡ 1) × (pads_with_zeros c ≡ false)
  auto_bare numeral e some auto =
      let zeros = pads_with_zeros c || nat_lt 1 (least_digits c) in
      let h = or_none (pads_with_zeros c) (nat_lt 1 (least_digits c))
      (sym (ap (λ (t : Bool). t && zeros) (ap is_auto e ∙ auto)) ∙ p.alike.no_zeros) in
      (one_test (least_digits c) some h.1, h.0)

  pub some_digits : (numeral : Numeral) → s.shape ≡ shape.Int numeral → 0 < least_digits c
  some_digits numeral e = zero_test (least_digits c) (sym (ap (λ (t : Bool). t && eqb (least_digits c) 0) (at_int numeral e))
      ∙ p.some_digit)

  -- what is printed of a number of the kind, and how it is read
  pub body_is : (numeral : Numeral) → s.shape ≡ shape.Int numeral → (z : ℤ) → IsOfKind c.kind z → Body c z
  body_is numeral e z of_kind = body_of laws c z p.right (some_digits numeral e)
      (small_of c.kind (is_negative z) (unsigned_abs z) z of_kind)

  reading_is : (numeral : Numeral) (e : s.shape ≡ shape.Int numeral) (z : ℤ) (of_kind : IsOfKind c.kind z) → Reading c numeral z
  reading_is numeral e z of_kind =
      let pair = and_both (bases_pair c.letter numeral.base) (signs_pair c.letter numeral.lead)
      (ap (letters_pair c.letter) (sym e) ∙ p.alike.letters) in
      reading c z (body_is numeral e z of_kind) proper of_kind numeral (λ strict. (plain_is c s p (ap is_strict e ∙ strict)).bare)
      (auto_bare numeral e (some_digits numeral e)) c.letter numeral.base refl refl pair.0 pair.1

  pub leads_is : (numeral : Numeral) → s.shape ≡ shape.Int numeral → (z : ℤ) → IsOfKind c.kind z → Leads numeral.lead c z
  leads_is numeral e z of_kind = (reading_is numeral e z of_kind).leads

  pub number_is : (numeral : Numeral) → s.shape ≡ shape.Int numeral → (z : ℤ) → IsOfKind c.kind z → NumberRead numeral c z
  number_is numeral e z of_kind = (reading_is numeral e z of_kind).number

  pub integer_reads_back : (numeral : Numeral) → s.shape ≡ shape.Int numeral → (k : Kind) (z : ℤ) → ItemFits c s (Number k z)
      → ReadsBack c s (Number k z)
  integer_reads_back numeral e k z fits =
      let of_kind : IsOfKind c.kind z = subst (λ (k : Kind). IsOfKind k z) fits.0 fits.1 in
      let b : Body c z = body_is numeral e z of_kind in
      let o : Body c (pos 0) = body_of laws c (pos 0) p.right (some_digits numeral e) (lit≤ tt) in
      let r : Reading c numeral z = reading_is numeral e z of_kind in
      let width : s.width ≡ Some (width_of s) = width_is s (ap is_chars e) p.width in
      let short = least_is_shortest c z b o in
      let ink : StartsInk (visible c z) = subst StartsInk (sym b.visible_is) b.ink in
      record {
        before = b.before;
        item = visible c z;
        text_is = b.text_is ∙ ap (λ (xs : List ℕ). blanks b.before ++ xs) (sym b.visible_is);
        skips = subst (λ (h : Shape). SkipsSo (shape_skips h) b.before (visible c z)) (sym e)
            (skips_by (is_strict_lead numeral.lead) b.before (visible c z) ink
            (λ strict. none_before c z b (plain_is c s p (ap is_strict e ∙ strict))));
        ink = λ number. ink;
        takes = λ rest closed. integer_takes laws c s z numeral (width_of s) c.slot rest e width (slot_is c s p.alike assigned) r.number
            (visible_some c z b) fits.2 (elim closed [
              | inl full ↦ inl (omega (arith, int_full numeral e full, short, fits.2))
              | inr out ↦ inr (subst (λ (h : Shape). FirstOut (stop_set h c) rest) e out)
            ]);
        stored = integer_stored laws c s z numeral (width_of s) c.slot [] e width (slot_is c s p.alike assigned) r.number
            (visible_some c z b) fits.2 (subst (λ (k : Kind). IsOfKind k z) (kinds_are c.kind s.kind p.alike.same) of_kind)
            ∙ ap (λ (k : Kind). Stores c.slot (Number k z)) (sym (kinds_are c.kind s.kind p.alike.same) ∙ sym fits.0);
        first = subst (λ (set : ByteTest). FirstIn set (integer_text c z)) (sym (r.first s.shape)) (integer_text_first c z b r.sign);
        first_byte = b.first_byte;
      }

-- ---- texts

pub text_byte : (xs : List ℕ) → AreBytes xs → FirstByte xs
text_byte [] h = tt
text_byte (b ∷ bs) h = h.0

all_first : (p : ByteTest) (xs : List ℕ) → 0 < length xs → AllByRecursion (λ b. p b ≡ true) xs → FirstIn p xs
all_first p [] some all = absurd (omega arith)
all_first p (b ∷ bs) some all = all.0

any_first : (xs : List ℕ) → 0 < length xs → FirstIn any_byte xs
any_first [] some = absurd (omega arith)
any_first (b ∷ bs) some = refl

starts_ink : (xs : List ℕ) → 0 < length xs → AllByRecursion (λ b. is_white b ≡ false) xs → StartsInk xs
starts_ink [] some all = absurd (omega arith)
starts_ink (b ∷ bs) some all = all.0

ink_first : (xs : List ℕ) → 0 < length xs → AllByRecursion (λ b. is_white b ≡ false) xs → FirstIn is_ink xs
ink_first [] some all = absurd (omega arith)
ink_first (b ∷ bs) some all = ap not all.0

-- blanks before a text, where a width pads
padded_first : (w k : ℕ) (xs : List ℕ) → (0 < k → 0 < w) → FirstIn is_ink xs
    → FirstIn (cond (ltb 0 w) (or (only 32) is_ink) is_ink) (blanks k ++ xs)
padded_first w zero xs more f = by (ltb 0 w)
  where
    by : (t : Bool) → FirstIn (cond t (or (only 32) is_ink) is_ink) xs
    by true = first_weaker is_ink (or (only 32) is_ink) xs (λ b h. or_right (only 32 b) (is_ink b) h) f
    by false = f
padded_first w (suc k) xs more f = ap (λ (t : Bool). cond t (or (only 32) is_ink) is_ink 32) (lt-ltb 0 w (more (omega arith)))

no_precision : (o : Option ℕ) → is_some o ≡ false → o ≡ None
no_precision None e = refl
no_precision (Some k) e = absurd cc

module _ (c : PrintConv) (s : Conversion) (p : Pairs c s) (assigned : is_some s.slot ≡ true) where
  bytes_part : (bytes : List ℕ) → is_number s.shape ≡ false → (c.letter ≡ letter.Text) ⊎ (c.letter ≡ letter.One)
      → bytes_text c bytes ≡ blanks (c.width - length bytes) ++ bytes
  bytes_part bytes no_number_here l =
      let precision : c.precision ≡ None = no_precision c.precision
      (sym (ap (λ (t : Bool). not t && is_some c.precision) no_number_here) ∙ p.whole) in
      let shown : shown_bytes c.letter c.precision bytes ≡ bytes = elim l [
        | inl e ↦ (λ t. shown_bytes (e t) (precision t) bytes)
        | inr e ↦ (λ t. shown_bytes (e t) (precision t) bytes)
      ] in
      ap (padded c) shown
      ∙ (λ t. blanks (cond (p.right t) 0 (c.width - length bytes)) ++ bytes ++ blanks (cond (p.right t) (c.width - length bytes) 0))
      ∙ append-nil (blanks (c.width - length bytes) ++ bytes)

  unpadded_width : is_number s.shape ≡ false → is_text s.shape ≡ false → c.width ≡ 0
  unpadded_width no_number_here no_text = none_padded c.width
      (sym (λ t. not (no_number_here t) && not (no_text t) && nat_lt 0 c.width) ∙ p.unpadded)

  text_full : (bytes : List ℕ) → is_chars s.shape ≡ false → is_number s.shape ≡ false → 0 < length bytes → length bytes ≤ width_of s
      → always_full c s ≡ true → length bytes ≡ width_of s
  text_full bytes no_chars no_number_here some fits full =
      let one : eqb (width_of s) 1 ≡ true = sym (λ t. no_chars t || cond (no_number_here t) (eqb (length (least_by s.shape c)) (width_of s))
      (eqb (width_of s) 1)) ∙ full in
      omega (arith, eqb-true (width_of s) 1 one, some, fits)

  pub text_reads_back : c.letter ≡ letter.Text → (lead : Lead) → s.shape ≡ shape.Text lead → (bytes : List ℕ) → ItemFits c s (Bytes bytes)
      → ReadsBack c s (Bytes bytes)
  text_reads_back l lead e bytes fits =
      let h : (0 < length bytes) × AllByRecursion (λ b. is_white b ≡ false) bytes × (length bytes ≤ width_of s) =
      subst (λ (h : Shape). TextFits h (width_of s) bytes) e fits.1 in
      let no_number_here : is_number s.shape ≡ false = ap is_number e in
      let no_chars : is_chars s.shape ≡ false = ap is_chars e in
      let width : s.width ≡ Some (width_of s) = width_is s no_chars p.width in
      record {
        before = c.width - length bytes;
        item = bytes;
        text_is = bytes_part bytes no_number_here (inl l);
        skips = subst (λ (h : Shape). SkipsSo (shape_skips h) (c.width - length bytes) bytes) (sym e)
            (skips_by (is_strict_lead lead) (c.width - length bytes) bytes (starts_ink bytes h.0 h.1)
            (λ strict. omega (arith, none_padded c.width (plain_is c s p (ap is_strict e ∙ strict)).unpadded)));
        ink = λ number. absurd (true≢false (sym number ∙ no_number_here));
        takes = λ rest closed. text_takes s lead (width_of s) bytes rest e width h.0 h.1 h.2 (elim closed [
          | inl full ↦ inl (text_full bytes no_chars no_number_here h.0 h.2 full)
          | inr out ↦ inr (subst (λ (h : Shape). FirstOut (stop_set h c) rest) e out)
        ]);
        stored = text_stored s lead c.slot bytes (slot_is c s p.alike assigned) e;
        first = (first_so l lead e (bytes_part bytes no_number_here (inl l)) (padded_first c.width (c.width - length bytes) bytes
            (λ k. omega (arith, k)) (ink_first bytes h.0 h.1)));
        first_byte = subst FirstByte (sym (bytes_part bytes no_number_here (inl l)))
            (blanks_byte (c.width - length bytes) bytes (text_byte bytes fits.0));
      }
    where
      first_so : c.letter ≡ letter.Text → (lead : Lead) → s.shape ≡ shape.Text lead
          → bytes_text c bytes ≡ blanks (c.width - length bytes) ++ bytes
          → FirstIn (first_by_letter letter.Text c (shape.Text lead)) (blanks (c.width - length bytes) ++ bytes)
          → FirstIn (first_by_letter c.letter c s.shape) (bytes_text c bytes)
      first_so l lead e t f = subst (λ (xs : List ℕ). FirstIn (first_by_letter c.letter c s.shape) xs) (sym t)
          (subst (λ (a : PrintLetter). FirstIn (first_by_letter a c s.shape) (blanks (c.width - length bytes) ++ bytes)) (sym l)
          (subst (λ (h : Shape). FirstIn (first_by_letter letter.Text c h) (blanks (c.width - length bytes) ++ bytes)) (sym e) f))

  pub set_reads_back : c.letter ≡ letter.Text → (members : List Bool) → s.shape ≡ shape.Set members → (bytes : List ℕ)
      → ItemFits c s (Bytes bytes) → ReadsBack c s (Bytes bytes)
  set_reads_back l members e bytes fits =
      let h : (0 < length bytes) × AllByRecursion (λ b. has_byte members b ≡ true) bytes × (length bytes ≤ width_of s) =
      subst (λ (h : Shape). TextFits h (width_of s) bytes) e fits.1 in
      let no_number_here : is_number s.shape ≡ false = ap is_number e in
      let no_chars : is_chars s.shape ≡ false = ap is_chars e in
      let none : c.width - length bytes ≡ 0 = omega (arith, unpadded_width no_number_here (ap is_text e)) in
      let width : s.width ≡ Some (width_of s) = width_is s no_chars p.width in
      let whole : bytes_text c bytes ≡ bytes = bytes_part bytes no_number_here (inl l) ∙ ap (λ (k : ℕ). blanks k ++ bytes) none in
      record {
        before = 0;
        item = bytes;
        text_is = whole;
        skips = subst (λ (h : Shape). SkipsSo (shape_skips h) 0 bytes) (sym e) refl;
        ink = λ number. absurd (true≢false (sym number ∙ no_number_here));
        takes = λ rest closed. set_takes s members (width_of s) bytes rest e width h.0 h.1 h.2 (elim closed [
          | inl full ↦ inl (text_full bytes no_chars no_number_here h.0 h.2 full)
          | inr out ↦ inr (subst (λ (h : Shape). FirstOut (stop_set h c) rest) e out)
        ]);
        stored = set_stored s members c.slot bytes (slot_is c s p.alike assigned) e;
        first = subst (λ (xs : List ℕ). FirstIn (first_by_letter c.letter c s.shape) xs) (sym whole)
            (subst (λ (a : PrintLetter). FirstIn (first_by_letter a c s.shape) bytes) (sym l)
            (subst (λ (h : Shape). FirstIn (first_by_letter letter.Text c h) bytes) (sym e) (all_first (has_byte members) bytes h.0 h.1)));
        first_byte = subst FirstByte (sym whole) (text_byte bytes fits.0);
      }

  pub chars_reads_back : (c.letter ≡ letter.Text) ⊎ (c.letter ≡ letter.One) → s.shape ≡ shape.Chars → IsProperWidth s.width
      → IsSome s.width → (bytes : List ℕ) → ItemFits c s (Bytes bytes) → ReadsBack c s (Bytes bytes)
  chars_reads_back l e proper sized bytes fits =
      let full : length bytes ≡ width_of s = subst (λ (h : Shape). TextFits h (width_of s) bytes) e fits.1 in
      let no_number_here : is_number s.shape ≡ false = ap is_number e in
      let none : c.width - length bytes ≡ 0 = omega (arith, unpadded_width no_number_here (ap is_text e)) in
      let some_width = width_of_chars s.width proper sized in
      let some : 0 < length bytes = omega (arith, full, some_width.1) in
      let whole : bytes_text c bytes ≡ bytes = bytes_part bytes no_number_here l ∙ ap (λ (k : ℕ). blanks k ++ bytes) none in
      record {
        before = 0;
        item = bytes;
        text_is = whole;
        skips = subst (λ (h : Shape). SkipsSo (shape_skips h) 0 bytes) (sym e) refl;
        ink = λ number. absurd (true≢false (sym number ∙ no_number_here));
        takes = λ rest closed. chars_takes s (width_of s) bytes rest e some_width.0 some full;
        stored = chars_stored s c.slot bytes (slot_is c s p.alike assigned) e;
        first = subst (λ (xs : List ℕ). FirstIn (first_by_letter c.letter c s.shape) xs) (sym whole)
            (subst (λ (h : Shape). FirstIn (first_by_letter c.letter c h) bytes) (sym e) (elim l [
              | inl t ↦ subst (λ (a : PrintLetter). FirstIn (first_by_letter a c shape.Chars) bytes) (sym t) (any_first bytes some)
              | inr t ↦ subst (λ (a : PrintLetter). FirstIn (first_by_letter a c shape.Chars) bytes) (sym t) (any_first bytes some)
            ]));
        first_byte = subst FirstByte (sym whole) (text_byte bytes fits.0);
      }
    where
      width_of_chars : (o : Option ℕ) → IsProperWidth o → IsSome o → (o ≡ Some (unwrap_or o 1)) × (0 < unwrap_or o 1)
      width_of_chars None w some = absurd cc
      width_of_chars (Some w) some here = (refl, omega (arith, some))

-- ---- each conversion

pub no_number : (k : Kind) (z : ℤ) → is_text_kind k ≡ true → IsOfKind k z → ⊥
no_number kind.Text z e h = no_number_of_text z h
no_number _ z e h = cc

pub no_number_of_double : (k : Kind) (z : ℤ) → is_double k ≡ true → IsOfKind k z → ⊥
no_number_of_double kind.F64 z e h = cc
no_number_of_double _ z e h = cc

pub reads_back : LawsBelow → (c : PrintConv) (s : Conversion) (v : Datum) → IsProperConv c → IsProperWidth s.width
    → HasItsWidth s.shape s.width → Pairs c s → is_some s.slot ≡ true → ItemFits c s v → ReadsBack c s v
reads_back laws c s v proper width sized p assigned fits = by c.letter s.shape refl refl p.alike.letters v fits
  where
    none_of : (l : PrintLetter) → c.letter ≡ l → ((k : Kind) → prints_kind l k ≡ true → is_text_kind k ≡ true) → (k : Kind) (z : ℤ)
        → ItemFits c s (Number k z) → ⊥
    none_of l a text k z f = no_number c.kind z (text c.kind (ap (λ (l : PrintLetter). prints_kind l c.kind) (sym a) ∙ proper.kind))
        (subst (λ (k : Kind). IsOfKind k z) f.0 f.1)

    not_double : (l : PrintLetter) → c.letter ≡ l → prints_kind l kind.F64 ≡ false → (r : real.Real) → RealFits c s r → ⊥
    not_double l a none (reals.F32 bits) f = f
    not_double l a none (reals.F64 bits) f =
        true≢false (sym ((λ i. prints_kind (sym a i) (sym f.0 i)) ∙ proper.kind) ∙ none)

    by : (l : PrintLetter) (h : Shape) → c.letter ≡ l → s.shape ≡ h → letters_pair l h ≡ true → (v : Datum) → ItemFits c s v
        → ReadsBack c s v
    by l (shape.Int numeral) a e pair (Number k z) f = integer_reads_back laws c s proper p assigned numeral e k z f
    by l (shape.Int numeral) a e pair (Bytes bytes) f = absurd (subst (λ (h : Shape). TextFits h (width_of s) bytes) e f.1)
    by letter.Text (shape.Text lead) a e pair (Bytes bytes) f = text_reads_back c s p assigned a lead e bytes f
    by letter.Text (shape.Set members) a e pair (Bytes bytes) f = set_reads_back c s p assigned a members e bytes f
    by letter.Text shape.Chars a e pair (Bytes bytes) f = chars_reads_back c s p assigned (inl a) e width
        (subst (λ (h : Shape). HasItsWidth h s.width) e sized) bytes f
    by letter.One shape.Chars a e pair (Bytes bytes) f = chars_reads_back c s p assigned (inr a) e width
        (subst (λ (h : Shape). HasItsWidth h s.width) e sized) bytes f
    by letter.Text h a e pair (Number k z) f = absurd (none_of letter.Text a (λ k h. h) k z f)
    by letter.One h a e pair (Number k z) f = absurd (none_of letter.One a (λ k h. h) k z f)
    by (letter.Float style upper) (shape.Float lead) a e pair (Real r) f = real_reads_back laws c s style upper r a lead e p assigned f
    by (letter.Float style upper) (shape.Float lead) a e pair (Number k z) f =
        absurd (no_number_of_double c.kind z (ap (λ (l : PrintLetter). prints_kind l c.kind) (sym a) ∙ proper.kind)
        (subst (λ (k : Kind). IsOfKind k z) f.0 f.1))
    by (letter.Float style upper) (shape.Float lead) a e pair (Bytes bytes) f = absurd
        (subst (λ (h : Shape). TextFits h (width_of s) bytes) e f.1)
    by letter.Signed h a e pair (Real r) f = absurd (not_double letter.Signed a refl r f)
    by letter.Unsigned h a e pair (Real r) f = absurd (not_double letter.Unsigned a refl r f)
    by letter.Octal h a e pair (Real r) f = absurd (not_double letter.Octal a refl r f)
    by letter.HexLower h a e pair (Real r) f = absurd (not_double letter.HexLower a refl r f)
    by letter.HexUpper h a e pair (Real r) f = absurd (not_double letter.HexUpper a refl r f)
    by letter.Binary h a e pair (Real r) f = absurd (not_double letter.Binary a refl r f)
    by letter.Text h a e pair (Real r) f = absurd (not_double letter.Text a refl r f)
    by letter.One h a e pair (Real r) f = absurd (not_double letter.One a refl r f)
    by _ _ a e pair v f = absurd cc
