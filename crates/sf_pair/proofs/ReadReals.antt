-- What is printed of a double that fits is read back.
use Rattle.std.proofs.Common.{◌≡◌, inl, inr, ℕ, zero, suc, ◌+◌, ◌-◌, ◌<◌, ◌≤◌, Bool, true, false, cond, ltb, ◌&&◌, nat_lt, List, [], ◌∷◌}
use Rattle.std.proofs.Common.{◌++◌, length, Option, Some, None, is_some, option_map, from_bits, refl, sym, ap, subst, ◌∙◌, arith}
use Rattle.std.specs.Prelude.{not}
use Rattle.std.proofs.lemmas.Bool.{eqb-true, lt-ltb, ltb-true}
use Rattle.std.specs.Float.{is_sign_negative, float_is_finite}
use Rattle.std.specs.Float.Ieee.{Float, binary64}
use Rattle.sf_base.specs.declared.real.Real as real
use Rattle.sf_base.specs.declared.real.Real.TheVariants as reals
use Rattle.sf_base.specs.declared.values.Kind.{Kind}
use Rattle.sf_base.specs.declared.values.Kind.TheVariants as kind
use Rattle.sf_base.specs.Data.{Real}
use Rattle.sf_format.specs.declared.directive.Lead.{Lead}
use Rattle.sf_format.specs.declared.directive.Lead.TheVariants.{Any, Minus, Nothing}
use Rattle.sf_format.specs.declared.directive.Shape.{Shape}
use Rattle.sf_format.specs.declared.directive.Shape.TheVariants as shape
use Rattle.sf_format.specs.declared.directive.Conversion.{Conversion}
use Rattle.sf_format.specs.Leads.{is_strict_lead, is_strict}
use Rattle.sf_format.specs.declared.unit.FloatStyle.{FloatStyle}
use Rattle.sf_format.specs.declared.unit.FloatStyle.TheVariants as style
use Rattle.sf_format.specs.declared.unit.PrintConv.{PrintConv}
use Rattle.sf_format.specs.declared.unit.PrintLetter.{PrintLetter}
use Rattle.sf_format.specs.declared.unit.PrintLetter.TheVariants as letter
use Rattle.sf_float.specs.declared.text.FloatConv.{FloatConv}
use Rattle.sf_float.specs.Printed.{is_hexadecimal, bare_len, left_blanks}
use Rattle.sf_float.specs.Computed.{float_text}
use Rattle.sf_float_read.specs.declared.item.reached.Forms.TheVariants as forms
use Rattle.sf_float_read.specs.declared.item.reached.Reached.{Reached}
use Rattle.sf_float_read.specs.declared.item.reached.Reached.TheVariants as at
use Rattle.sf_float_read.specs.item.Tests.{next, read, start_of, is_whole, is_whole_at, is_float}
use Rattle.sf_float_read.specs.value.Computed.{stored_in}
use Rattle.sf_float_read.specs.value.Values.{IsStored}
use Rattle.sf_item.specs.Matching.{forms_of}
use Rattle.sf_item.specs.Tests.{has_item, shape_matches, shape_begins}
use Rattle.sf_print.specs.texts.Floats.{style_of, float_conv}
use Rattle.sf_print.specs.texts.Text.{value_text, blanks}
use Rattle.sf_print.specs.texts.Visible.{without_blanks}
use Rattle.sf_report.specs.Machine.{shape_skips, passed_end, stored_end, real_in, real_end}
use Rattle.sf_pair.specs.conversions.Below.{LawsBelow}
use Rattle.sf_pair.specs.conversions.Reals.{seen, zero_seen, has_point}
use Rattle.sf_pair.specs.conversions.Neighbours.{Bytes as ByteTest, only, or, digits_in, float_digit, float_first, first_by_letter}
use Rattle.sf_pair.specs.conversions.Neighbours.{is_prefix_letter, fraction_stops, whole_stops, float_stops, stop_set}
use Rattle.sf_pair.specs.Groups.{is_chars, is_hex_float, width_of}
use Rattle.sf_pair.specs.Fits.{RealFits}
use Rattle.sf_pair.proofs.ConversionLemmas.Bodies.{StartsInk, FirstByte, blanks_byte}
use Rattle.sf_pair.proofs.ConversionLemmas.Firsts.{FirstIn, first_weaker, or_right}
use Rattle.sf_pair.proofs.Taken.{FirstOut, taken_within, either_ends}
use Rattle.sf_pair.proofs.Paired.{full_by, IsBare, IsPlain, Pairs, plain_is, no_left, kinds_are, slot_is, width_is}
use Rattle.sf_pair.proofs.ConversionLemmas.Places.{one_of, digits, passes, decimal_place, pointed_place, exponent_place, stopped_exponent}
use Rattle.sf_pair.proofs.ConversionLemmas.StrictPlaces.{strict_place, strict_read, strict_whole, strict_stopped, letter_stopped}
use Rattle.sf_pair.proofs.ConversionLemmas.Places.{stopped_fraction, stopped_whole, was_read, none_follows}
use Rattle.sf_pair.proofs.ConversionLemmas.RealTexts.{StartsDigit, size_of, hidden, after_sign, body, before, text_is, digit_follows}
use Rattle.sf_pair.proofs.ConversionLemmas.RealTexts.{body_ink}
use Rattle.sf_pair.proofs.ConversionLemmas.RealTexts.{seen_is, body_decimal, decimal_ends, exponent_ends, pointed_ends}
use Rattle.sf_pair.proofs.ConversionLemmas.RealSizes.{zero_is, least_is_shortest}
use Rattle.sf_pair.proofs.Back.{SkipsSo, skips_by, ReadsBack}

-- ---- first bytes

by_flags : Bool → Bool → ByteTest
by_flags p b = cond p (only 43) (cond b (only 32) (digits_in 10))

digit_first : (xs : List ℕ) → StartsDigit xs → FirstIn (digits_in 10) xs
digit_first [] h = absurd h
digit_first (b ∷ bs) h = one_of (digits_in 10) digits b refl h

pub sign_first : (n p b : Bool) (xs : List ℕ) → StartsDigit xs
    → FirstIn (or (only 45) (cond p (only 43) (cond b (only 32) (digits_in 10))))
    (blanks (cond n 0 (cond p 0 (cond b 1 0))) ++ (cond n (45 ∷ []) (cond p (43 ∷ []) []) ++ xs))
sign_first true p b xs h = refl
sign_first false true b xs h = refl
sign_first false false true xs h = refl
sign_first false false false xs h =
    first_weaker (digits_in 10) (or (only 45) (digits_in 10)) xs (λ b k. or_right (only 45 b) (digits_in 10 b) k) (digit_first xs h)

digit_then_float : (c : PrintConv) (b : ℕ) → float_digit c b ≡ true → float_first c b ≡ true
digit_then_float c b h = by (nat_lt 0 c.width && not (c.zero && not c.minus))
  where
    by : (t : Bool) → cond t (or (only 32) (float_digit c)) (float_digit c) b ≡ true
    by true = or_right (only 32 b) (float_digit c b) h
    by false = h

blank_first : (c : PrintConv) (x : Float) (k : ℕ) → float_is_finite x ≡ true
    → left_blanks (float_conv c) x (size_of (float_conv c) x) ≡ suc k → float_first c 32 ≡ true
blank_first c x k finite e = by c.minus c.zero (sym (λ i. cond c.minus 0 (cond (c.zero && not c.minus && finite i) 0
    (c.width - bare_len (float_conv c) x (size_of (float_conv c) x)))) ∙ e)
  where
    some : (w n : ℕ) → w - n ≡ suc k → ltb 0 w ≡ true
    some w n e = lt-ltb 0 w (omega arith)

    by : (m z : Bool) → cond m 0 (cond (z && not m && true) 0 (c.width - bare_len (float_conv c) x (size_of (float_conv c) x))) ≡ suc k
        → cond (nat_lt 0 c.width && not (z && not m)) (or (only 32) (float_digit c)) (float_digit c) 32 ≡ true
    by true z e = absurd (omega (arith, e))
    by false true e = absurd (omega (arith, e))
    by false false e = ap (λ (t : Bool). cond (t && true) (or (only 32) (float_digit c)) (float_digit c) 32)
        (some c.width (bare_len (float_conv c) x (size_of (float_conv c) x)) e)

float_text_first : (c : PrintConv) (x : Float) → float_is_finite x ≡ true
    → FirstIn (float_first c) (blanks (before (float_conv c) x) ++ body (float_conv c) x)
float_text_first c x finite = by (left_blanks (float_conv c) x (size_of (float_conv c) x)) refl
  where
    by : (l : ℕ) → left_blanks (float_conv c) x (size_of (float_conv c) x) ≡ l
        → FirstIn (float_first c) (blanks (l + hidden (float_conv c) x) ++ body (float_conv c) x)
    by (suc l) e =
        let G : ℕ → Type 0 = λ k. FirstIn (float_first c) (blanks k ++ body (float_conv c) x) in
        let same : suc (l + hidden (float_conv c) x) ≡ suc l + hidden (float_conv c) x = omega arith in
        subst G same (blank_first c x l finite e)
    by zero e =
        let G : ℕ → Type 0 = λ k. FirstIn (float_first c) (blanks k ++ body (float_conv c) x) in
        let same : hidden (float_conv c) x ≡ zero + hidden (float_conv c) x = omega arith in
        subst G same (first_weaker (float_digit c) (float_first c) (blanks (hidden (float_conv c) x) ++ body (float_conv c) x)
        (digit_then_float c) (sign_first (is_sign_negative x) c.plus c.blank (after_sign (float_conv c) x)
        (digit_follows (float_conv c) x finite)))

pub body_byte : (c : FloatConv) (x : Float) → float_is_finite x ≡ true → FirstByte (body c x)
body_byte c x finite = by (is_sign_negative x) c.plus
  where
    digit_byte : (xs : List ℕ) → StartsDigit xs → FirstByte xs
    digit_byte [] h = absurd h
    digit_byte (b ∷ bs) h = ltb-true b 256 (one_of (λ b. ltb b 256) digits b refl h)

    by : (n p : Bool) → FirstByte (cond n (45 ∷ []) (cond p (43 ∷ []) []) ++ after_sign c x)
    by true p = omega arith
    by false true = omega arith
    by false false = digit_byte (after_sign c x) (digit_follows c x finite)

-- ---- how far it is read, and what ends it

-- the text is a matching sequence, and no byte outside the stop set goes on with it
pub record FloatRead (lead : Lead) (c : PrintConv) (f : List ℕ) : Type 0 where
  pub place : Reached
  pub is : read (Some (start_of (forms_of lead))) f ≡ Some place
  pub whole : is_whole place ≡ true
  pub stops : (b : ℕ) → stop_set (shape.Float lead) c b ≡ false → next place b ≡ None

pub not_hexadecimal : (c : PrintConv) (l : FloatStyle) (u : Bool) → c.letter ≡ letter.Float l u → is_hex_float c.letter ≡ false
    → is_hexadecimal (style_of c.letter) ≡ false
not_hexadecimal c l u a e = ap (λ (k : PrintLetter). is_hexadecimal (style_of k)) a ∙ by l (sym (ap is_hex_float a) ∙ e)
  where
    by : (l : FloatStyle) → is_hex_float (letter.Float l u) ≡ false → is_hexadecimal (style_of (letter.Float l u)) ≡ false
    by style.Hexadecimal e = absurd cc
    by _ e = refl

-- with `!` it is read so far too
pub strict_reads : (c : PrintConv) (x : Float) → float_is_finite x ≡ true → IsBare c → is_hexadecimal (style_of c.letter) ≡ false
    → (r : Reached) → read (Some at.Start) (body (float_conv c) x) ≡ Some r
    → read (Some at.DecimalStart) (body (float_conv c) x) ≡ Some (strict_place r)
strict_reads c x finite k other r is =
    strict_read (is_sign_negative x) c.plus (after_sign (float_conv c) x) k.plus (digit_follows (float_conv c) x finite)
    (body_decimal (float_conv c) x finite other) ∙ ap (option_map strict_place) is

module _ (c : PrintConv) (u : Bool) (x : Float) (finite : float_is_finite x ≡ true)
    (matching : is_float (body (float_conv c) x) ≡ true) where
  any_read : (l : FloatStyle) → c.letter ≡ letter.Float l u → FloatRead Any c (body (float_conv c) x)
  any_read style.Exponent a =
      let w = was_read exponent_place (body (float_conv c) x) matching (exponent_ends (float_conv c) x finite (inl (ap style_of a))) in
      record {
        place = w.place;
        is = w.is;
        whole = w.whole;
        stops = λ b out. stopped_exponent w.place w.tested b (sym (ap (λ (l : PrintLetter). float_stops l c b) a) ∙ out);
      }
  any_read style.Hexadecimal a =
      let w = was_read exponent_place (body (float_conv c) x) matching (exponent_ends (float_conv c) x finite (inr (ap style_of a))) in
      record {
        place = w.place;
        is = w.is;
        whole = w.whole;
        stops = λ b out. stopped_exponent w.place w.tested b (sym (ap (λ (l : PrintLetter). float_stops l c b) a) ∙ out);
      }
  any_read style.General a =
      let w = was_read decimal_place (body (float_conv c) x) matching
      (decimal_ends (float_conv c) x finite (ap (λ (l : PrintLetter). is_hexadecimal (style_of l)) a)) in
      record {
        place = w.place;
        is = w.is;
        whole = w.whole;
        stops = λ b out. stopped_whole w.place w.whole w.tested b (sym (ap (λ (l : PrintLetter). float_stops l c b) a) ∙ out);
      }
  any_read style.Fixed a = by (has_point c) refl (λ b out. sym (ap (λ (l : PrintLetter). float_stops l c b) a) ∙ out)
    where
      by : (t : Bool) → has_point c ≡ t
          → ((b : ℕ) → float_stops c.letter c b ≡ false → cond t fraction_stops whole_stops b ≡ false)
          → FloatRead Any c (body (float_conv c) x)
      by true point out =
          let w = was_read pointed_place (body (float_conv c) x) matching
          (pointed_ends (float_conv c) x finite (ap style_of a) point) in
          record {
            place = w.place;
            is = w.is;
            whole = w.whole;
            stops = λ b e. stopped_fraction w.place w.whole w.tested b (out b e);
          }
      by false point out =
          let w = was_read decimal_place (body (float_conv c) x) matching
          (decimal_ends (float_conv c) x finite (ap (λ (l : PrintLetter). is_hexadecimal (style_of l)) a)) in
          record {
            place = w.place;
            is = w.is;
            whole = w.whole;
            stops = λ b e. stopped_whole w.place w.whole w.tested b (out b e);
          }

  -- with `!` no letter of a prefix goes on with it
  strict_stops : is_hexadecimal (style_of c.letter) ≡ false → (r : FloatRead Any c (body (float_conv c) x)) (b : ℕ)
      → cond (is_prefix_letter b) false (float_stops c.letter c b) ≡ false → next (strict_place r.place) b ≡ None
  strict_stops other r b out = by (is_prefix_letter b) refl out
    where
      decimal : decimal_place r.place ≡ true
      decimal = sym (ap (passes decimal_place) r.is) ∙ decimal_ends (float_conv c) x finite other

      by : (t : Bool) → is_prefix_letter b ≡ t → cond t false (float_stops c.letter c b) ≡ false → next (strict_place r.place) b ≡ None
      by true e out = letter_stopped r.place r.whole decimal b e
      by false e out = strict_stopped r.place r.whole b (r.stops b out)

  pub float_read : (lead : Lead) (l : FloatStyle) → c.letter ≡ letter.Float l u → (is_strict_lead lead ≡ true → IsBare c)
      → FloatRead lead c (body (float_conv c) x)
  float_read Any l a plain = any_read l a
  float_read Minus l a plain =
      let k = plain refl in
      let r = any_read l a in
      let other = not_hexadecimal c l u a k.decimal in
      record {
        place = strict_place r.place;
        is = strict_reads c x finite k other r.place r.is;
        whole = strict_whole r.place r.whole;
        stops = strict_stops other r;
      }
  float_read Nothing l a plain =
      let k = plain refl in
      let r = any_read l a in
      let other = not_hexadecimal c l u a k.decimal in
      record {
        place = strict_place r.place;
        is = strict_reads c x finite k other r.place r.is;
        whole = strict_whole r.place r.whole;
        stops = strict_stops other r;
      }

-- no blank stands before it
none_before : (c : PrintConv) (x : Float) → IsPlain c → before (float_conv c) x ≡ 0
none_before c x k =
    (λ i. no_left c.minus (c.zero && not c.minus && float_is_finite x) c.width (bare_len (float_conv c) x (size_of (float_conv c) x))
    k.unpadded i + no_blank (is_sign_negative x) c.plus c.blank k.bare.blank i)
  where
    no_blank : (n p b : Bool) → b ≡ false → ◌≡◌ {A = ℕ} (cond n 0 (cond p 0 (cond b 1 0))) 0
    no_blank true p b e = refl
    no_blank false true b e = refl
    no_blank false false true e = absurd cc
    no_blank false false false e = refl

-- ---- the whole

pub float_some : (f : List ℕ) → is_float f ≡ true → 0 < length f
float_some [] e = absurd cc
float_some (b ∷ f) e = omega arith

pub real_reads_back : LawsBelow → (c : PrintConv) (s : Conversion) (l : FloatStyle) (u : Bool) (r : real.Real)
    → c.letter ≡ letter.Float l u → (lead : Lead) → s.shape ≡ shape.Float lead → Pairs c s → is_some s.slot ≡ true → RealFits c s r
    → ReadsBack c s (Real r)
real_reads_back laws c s l u (reals.F32 bits) a lead e p assigned fits = absurd fits
real_reads_back laws c s l u (reals.F64 bits) a lead e p assigned fits =
    let f : FloatConv = float_conv c in
    let x : Float = from_bits binary64 bits in
    let finite : float_is_finite x ≡ true = fits.1 in
    let is : seen c (reals.F64 bits) ≡ body f x = seen_is f x finite p.right in
    let short : length (body f x) ≤ width_of s = omega (arith, ap length is, fits.2) in
    let stored = subst (λ (t : List ℕ). IsStored binary64 t (Some bits)) is fits.3 in
    let computed = (laws.stored binary64 (body f x)).1 (Some bits) stored in
    let matching : is_float (body f x) ≡ true = (laws.floats forms.All (body f x)).0.1 computed.0 in
    let width : s.width ≡ Some (width_of s) = width_is s (ap is_chars e) p.width in
    let text : value_text c (Real (reals.F64 bits)) ≡ blanks (before f x) ++ body f x = text_is f x finite p.right in
    let plain = λ (strict : is_strict_lead lead ≡ true). plain_is c s p (ap is_strict e ∙ strict) in
    let w = float_read c u x finite matching lead l a (λ strict. (plain strict).bare) in
    let begins : shape_begins s.shape s.width (body f x) ≡ true =
    ap (λ (h : Shape). shape_begins h s.width (body f x)) e ∙ ap is_some w.is in
    let ink : StartsInk (body f x) = body_ink f x finite in
    let double : s.kind ≡ kind.F64 = sym (kinds_are c.kind s.kind p.alike.same) ∙ fits.0 in
    record {
      before = before f x;
      item = body f x;
      text_is = text;
      skips = subst (λ (h : Shape). SkipsSo (shape_skips h) (before f x) (body f x)) (sym e)
          (skips_by (is_strict_lead lead) (before f x) (body f x) ink (λ strict. none_before c x (plain strict)));
      ink = λ number. ink;
      takes = λ rest closed. record {
        some = float_some (body f x) matching;
        item = ap has_item e;
        taken = taken_within s (body f x) (width_of s) width short begins;
        ends = either_ends s (body f x) rest (width_of s) (stop_set (shape.Float lead) c) width
            (λ b out. ap (λ (h : Shape). shape_begins h s.width (body f x ++ b ∷ [])) e
            ∙ ap is_some (none_follows (start_of (forms_of lead)) (body f x) w.place w.is b (w.stops b out))) (elim closed [
              | inl full ↦ inl (omega (
                arith,
                short,
                eqb-true (length (zero_seen c)) (width_of s) (sym (ap (full_by c s) e) ∙ full),
                ap (λ (z : Float). length (without_blanks (float_text f z))) zero_is,
                least_is_shortest f x p.right finite,
                ap length (seen_is f x finite p.right),
              ))
              | inr out ↦ inr (subst (λ (h : Shape). FirstOut (stop_set h c) rest) e out)
            ]);
        matches_it = ap (λ (h : Shape). shape_matches h s.width (body f x)) e
            ∙ (ap is_whole_at w.is ∙ w.whole);
      };
      stored = ap (λ (o : Option ℕ). passed_end s o (body f x)) (slot_is c s p.alike assigned)
          ∙ ap (λ (h : Shape). stored_end s c.slot h (body f x)) e
          ∙ ap (λ (k : Kind). real_end c.slot (cond (is_float (body f x)) (real_in k (body f x)) None)) double
          ∙ ap (λ (t : Bool). real_end c.slot (cond t (option_map reals.F64 (stored_in binary64 (body f x))) None)) matching
          ∙ ap (λ (o : Option ℕ). real_end c.slot (option_map reals.F64 o)) (sym computed.1);
      first = subst (λ (t : List ℕ). FirstIn (first_by_letter c.letter c s.shape) t) (sym text)
          (subst (λ (k : PrintLetter). FirstIn (first_by_letter k c s.shape) (blanks (before f x) ++ body f x)) (sym a)
          (float_text_first c x finite));
      first_byte = subst FirstByte (sym text) (blanks_byte (before f x) (body f x) (body_byte f x finite));
    }
