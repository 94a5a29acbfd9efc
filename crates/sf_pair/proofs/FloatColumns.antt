-- The text of a float in a column: how it ends, and how long it is.
use Rattle.std.proofs.Common.{◌≡◌, ℕ, ◌+◌, ◌-◌, ◌<◌, ◌≤◌, Bool, true, false, cond, ◌&&◌, List, [], ◌∷◌, ◌++◌, length, refl, sym, ap, subst}
use Rattle.std.proofs.Common.{◌∙◌, arith, append_assoc, length-append, from_bits, unwrap_or}
use Rattle.std.proofs.lemmas.List.{length-replicate}
use Rattle.std.specs.Prelude.{not}
use Rattle.std.specs.List.{AllByRecursion, list_all}
use Rattle.std.specs.Float.{float_is_finite}
use Rattle.std.specs.Float.Ieee.{Float, binary64}
use Rattle.sf_base.specs.Bytes.{is_white}
use Rattle.sf_base.specs.Blanks.{EndsWithInk}
use Rattle.sf_format.specs.declared.unit.PrintConv.{PrintConv}
use Rattle.sf_float.specs.declared.text.Style.{Style}
use Rattle.sf_float.specs.declared.text.Style.TheVariants.{Hexadecimal}
use Rattle.sf_float.specs.declared.text.FloatConv.{FloatConv}
use Rattle.sf_float.specs.Printed.{in_case, is_hexadecimal, mark, left_blanks, right_blanks, inner_zeros}
use Rattle.sf_float.specs.Computed.{digits_text, float_text}
use Rattle.sf_print.specs.texts.Text.{blanks, zeros}
use Rattle.sf_print.specs.texts.Floats.{float_conv}
use Rattle.sf_pair.specs.conversions.Widths.{longest_float}
use Rattle.sf_pair.proofs.ConversionLemmas.Bodies.{StartsInk}
use Rattle.sf_pair.proofs.ConversionLemmas.Places.{one_of, digits, decimals, All}
use Rattle.sf_pair.proofs.ConversionLemmas.RealTexts.{Signed, size_of, bare_sign, hidden, after_sign, body, before, case_append}
use Rattle.sf_pair.proofs.ConversionLemmas.RealTexts.{case_length}
use Rattle.sf_pair.proofs.ConversionLemmas.RealTexts.{case_all, hexadecimal_signed, text_is_all, body_ink, body_decimal}
use Rattle.sf_pair.proofs.ConversionLemmas.RealSizes.{body_size, left_size, right_size}
use Rattle.sf_pair.proofs.ConversionLemmas.Shortest.{size_by}
use Rattle.sf_pair.proofs.ConversionLemmas.LongestReals.{bare_most}
use Rattle.sf_pair.proofs.Trims.{ends_more, all_end}

-- ---- its end

all_ink : (ks xs : List ℕ) → list_all (λ b. not (is_white b)) ks ≡ true → All ks xs → AllByRecursion (λ b. is_white b ≡ false) xs
all_ink ks [] ink all = tt
all_ink ks (b ∷ xs) ink all = (not_so (is_white b) (one_of (λ b. not (is_white b)) ks b ink all.0), all_ink ks xs ink all.1)
  where
    not_so : (t : Bool) → not t ≡ true → t ≡ false
    not_so true e = absurd cc
    not_so false e = refl

starts_some : (xs : List ℕ) → StartsInk xs → 0 < length xs
starts_some [] h = absurd h
starts_some (b ∷ xs) h = omega arith

-- with an exponent it ends with a digit
signed_ends : (upper : Bool) (t : List ℕ) → Signed t → EndsWithInk (in_case upper t)
signed_ends upper t s =
    let parts : t ≡ (s.before ++ s.sign ∷ []) ++ s.after = s.is ∙ sym (append_assoc s.before (s.sign ∷ []) s.after) in
    subst EndsWithInk (sym (ap (in_case upper) parts ∙ case_append upper (s.before ++ s.sign ∷ []) s.after))
    (ends_more (in_case upper (s.before ++ s.sign ∷ [])) (in_case upper s.after)
    (all_end (in_case upper s.after) (omega (arith, case_length upper s.after, s.some))
    (all_ink digits (in_case upper s.after) refl (case_all upper digits s.after refl s.all))))

pub body_ends : (c : FloatConv) (x : Float) → float_is_finite x ≡ true → EndsWithInk (body c x)
body_ends c x finite = by (is_hexadecimal c.style) refl
  where
    hexadecimal : (s : Style) → is_hexadecimal s ≡ true → s ≡ Hexadecimal
    hexadecimal Hexadecimal e = refl
    hexadecimal _ e = absurd cc

    by : (t : Bool) → is_hexadecimal c.style ≡ t → EndsWithInk (body c x)
    by false other = all_end (body c x) (starts_some (body c x) (body_ink c x finite))
        (all_ink decimals (body c x) refl (body_decimal c x finite other))
    by true is =
        let size : EndsWithInk (size_of c x) =
        signed_ends c.upper (digits_text c.style c.alt c.precision x) (subst (λ (s : Style). Signed (digits_text s c.alt c.precision x))
        (sym (hexadecimal c.style is)) (hexadecimal_signed c.alt c.precision x)) in
        ends_more (bare_sign c x) (after_sign c x) (ends_more (mark c x) (zeros (inner_zeros c x (size_of c x)) ++ size_of c x)
        (ends_more (zeros (inner_zeros c x (size_of c x))) (size_of c x) size))

-- ---- its length

filled_width : (m z : Bool) (w h v k n l b r : ℕ) → l ≡ cond m 0 (cond (z && not m) 0 (w - (h + v + k + n)))
    → b ≡ size_by (z && not m) w h v k n → r ≡ cond m (w - (h + v + k + n)) 0 → h + v + k + n ≤ w → (l + h) + (b + r) ≡ w
filled_width true true w h v k n l b r e f g low = omega (arith, e, f, g, low)
filled_width true false w h v k n l b r e f g low = omega (arith, e, f, g, low)
filled_width false true w h v k n l b r e f g low = omega (arith, e, f, g, low)
filled_width false false w h v k n l b r e f g low = omega (arith, e, f, g, low)

-- where the longest number has room in the width, each text is as long as it
pub text_full : (c : PrintConv) → unwrap_or c.precision 6 ≤ 255 → (bits : ℕ) → float_is_finite (from_bits binary64 bits) ≡ true
    → longest_float c ≤ c.width → length (float_text (float_conv c) (from_bits binary64 bits)) ≡ c.width
text_full c few bits finite room =
    let f : FloatConv = float_conv c in
    let x : Float = from_bits binary64 bits in
    let after : ℕ = right_blanks f x (size_of f x) in
    let parts : length (float_text f x) ≡ before f x + (length (body f x) + after) = ap length (text_is_all f x finite) ∙ omega (
      arith,
      length-append (blanks (before f x)) (body f x ++ blanks after),
      length-append (body f x) (blanks after),
      length-replicate {A = ℕ} (before f x) 32,
      length-replicate {A = ℕ} after 32,
    ) in
    parts ∙ filled_width c.minus c.zero c.width (hidden f x) (length (bare_sign f x)) (length (mark f x)) (length (size_of f x))
    (left_blanks f x (size_of f x)) (length (body f x)) after (left_size f x finite) (body_size f x finite) (right_size f x finite)
    (omega (arith, bare_most c few bits finite, room))
