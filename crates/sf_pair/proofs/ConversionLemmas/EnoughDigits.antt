-- What e prints of a finite double with 16 digits after the point or more, and g with 17 digits or more, is read as that double.
use Rattle.std.proofs.Common.{◌≡◌, ℕ, zero, suc, ◌+◌, ◌/◌, ◌^◌, ◌<◌, ◌≤◌, Bool, true, inl, inr, List, ◌++◌, length, pos, Some, T, refl, sym}
use Rattle.std.proofs.Common.{ap, ◌∙◌, subst, arith, append-nil}
use lib.Dec.{lit<}
use lib.Ieee.Back.{whole_unique}
use Rattle.std.specs.Fmt.{sign_text}
use Rattle.std.specs.Float.{is_sign_negative, float_is_finite}
use Rattle.std.specs.Float.Ieee.{Float, nan, inf, fin, fits, binary64}
use Rattle.std.specs.Float.Numeral.{Parts, text_of}
use Rattle.std.specs.Float.Parse.{parse_float}
use Rattle.ryu.specs.Plain.{text_with}
use Rattle.sf_float.specs.Texts.{fixed_digits, fixed_parts, fixed_text, point_text, scientific}
use Rattle.sf_float.specs.General.{IsGeneralOf}
use Rattle.sf_float.specs.Computed.{power_of, number_of, general_of}
use Rattle.sf_float.specs.Laws.{GeneralReadsBack, GeneralZeroReadsBack}
use Rattle.sf_float.proofs.TextLaws.{fixed_all, fixed_length, pointless, well_formed, scientific_back, zero_back}
use Rattle.sf_pair.proofs.ConversionLemmas.PaddedNumerals.{Decimal}
use Rattle.sf_pair.proofs.ConversionLemmas.RealSizes.{power_zero}
use Rattle.sf_pair.proofs.ConversionLemmas.SignificantDigits.{digits_of}
use Rattle.sf_pair.proofs.ConversionLemmas.ShortenedDigits.{general_right}

abbrev Reads : Float → List ℕ → Type 0
Reads x t = Decimal binary64 (is_sign_negative x) t x

-- ---- 0

pub the_zero : (s : Bool) (e : _) → T (fits binary64 (fin s zero e)) → fin s zero e ≡ fin s 0 (pos 0)
unfolding fits
the_zero s e f = whole_unique binary64 (fin s zero e) (fin s 0 (pos 0)) s 0 f tt (refl, omega arith) (refl, omega arith)

zero_sign : (s : Bool) → is_sign_negative (fin s 0 (pos 0)) ≡ s
unfolding is_sign_negative
zero_sign s = refl

-- ---- the parts of a text

raised_parts : (x : Float) (alt : Bool) (d n power : ℕ)
    → parse_float binary64 (sign_text (is_sign_negative x) ++ text_with true (scientific alt d n power)) ≡ Some x
    → Reads x (text_with true (scientific alt d n power))
raised_parts x alt d n power back = record {
  parts = scientific alt d n power;
  formed = well_formed alt d n power;
  some = lit< tt;
  is = refl;
  back = back;
}

abbrev plain_of : Bool → ℕ → ℕ → ℕ → Parts
plain_of alt kept m count = fixed_parts alt kept m count (length (text_of (fixed_parts alt kept m count 0)))

plain_text : (alt : Bool) (kept m count : ℕ) → fixed_text alt kept m count ≡ text_with true (plain_of alt kept m count)
plain_text alt kept m count = ap (λ (t : List ℕ). fixed_digits count (m / 10 ^ kept) ++ t) (sym (append-nil (point_text alt kept m)))

plain_parts : (x : Float) (alt : Bool) (kept m count : ℕ) → 0 < count
    → parse_float binary64 (sign_text (is_sign_negative x) ++ fixed_text alt kept m count) ≡ Some x
    → Reads x (fixed_text alt kept m count)
plain_parts x alt kept m count some back = record {
  parts = plain_of alt kept m count;
  formed = record {
    whole_digits = fixed_all count (m / 10 ^ kept);
    fraction_digits = fixed_all kept m;
    exponent_digits = tt;
    no_point = pointless alt kept m;
    no_exponent = λ h. refl;
    len_is = refl;
  };
  some = omega (arith, fixed_length count (m / 10 ^ kept), some);
  is = plain_text alt kept m count;
  back = ap (λ (t : List ℕ). parse_float binary64 (sign_text (is_sign_negative x) ++ t)) (sym (plain_text alt kept m count)) ∙ back;
}

general_parts : (x : Float) (alt : Bool) (k n power : ℕ) (t : List ℕ) → IsGeneralOf alt k n power t
    → parse_float binary64 (sign_text (is_sign_negative x) ++ t) ≡ Some x → Reads x t
general_parts x alt k n power t (inl g) back =
    subst (Reads x) (sym g.1.5) (plain_parts x alt g.1.0 g.1.1 g.1.2 g.1.4.some
    (ap (λ (t : List ℕ). parse_float binary64 (sign_text (is_sign_negative x) ++ t)) (sym g.1.5) ∙ back))
general_parts x alt k n power t (inr g) back =
    subst (Reads x) (sym g.1.3) (raised_parts x alt g.1.0 g.1.1 power
    (ap (λ (t : List ℕ). parse_float binary64 (sign_text (is_sign_negative x) ++ t)) (sym g.1.3) ∙ back))

-- ---- the styles

zero_same : (s : Bool) (t : List ℕ) → parse_float binary64 (sign_text s ++ t) ≡ Some (fin s 0 (pos 0))
    → parse_float binary64 (sign_text (is_sign_negative (fin s 0 (pos 0))) ++ t) ≡ Some (fin s 0 (pos 0))
zero_same s t e = ap (λ (b : Bool). parse_float binary64 (sign_text b ++ t)) (zero_sign s) ∙ e

pub exponent_reads : (x : Float) (alt : Bool) (d : ℕ) → T (fits binary64 x) → float_is_finite x ≡ true → 16 ≤ d → d ≤ 255
    → Reads x (text_with true (scientific alt d (number_of x (d + 1)) (power_of x (d + 1))))
unfolding float_is_finite
exponent_reads nan alt d f finite many few = absurd cc
exponent_reads (inf s) alt d f finite many few = absurd cc
exponent_reads (fin s zero e) alt d f finite many few =
    subst (λ (x : Float). Reads x (text_with true (scientific alt d (number_of x (d + 1)) (power_of x (d + 1))))) (sym (the_zero s e f))
    (raised_parts (fin s 0 (pos 0)) alt d (number_of (fin s 0 (pos 0)) (d + 1)) (power_of (fin s 0 (pos 0)) (d + 1)) (zero_same s _ (
    (λ i. parse_float binary64 (sign_text s ++ text_with true
    (scientific alt d ((power_zero (fin s 0 (pos 0)) (d + 1) refl).1 i) ((power_zero (fin s 0 (pos 0)) (d + 1) refl).0 i))))
    ∙ zero_back s alt d
    )))
exponent_reads (fin s (suc m) e) alt d f finite many few =
    let x : Float = fin s (suc m) e in
    let g = digits_of x (d + 1) f (omega arith) (omega arith) (omega (arith, few)) in
    raised_parts x alt d (number_of x (d + 1)) (power_of x (d + 1))
    (scientific_back x alt d (number_of x (d + 1)) (power_of x (d + 1)) f (omega arith) many g.few g.significant)

pub general_reads : GeneralReadsBack → GeneralZeroReadsBack → (x : Float) (alt : Bool) (k : ℕ) → T (fits binary64 x)
    → float_is_finite x ≡ true → 17 ≤ k → k ≤ 255 → Reads x (general_of alt k (number_of x k) (power_of x k))
unfolding float_is_finite
general_reads general_back general_zero nan alt k f finite many few = absurd cc
general_reads general_back general_zero (inf s) alt k f finite many few = absurd cc
general_reads general_back general_zero (fin s zero e) alt k f finite many few =
    subst (λ (x : Float). Reads x (general_of alt k (number_of x k) (power_of x k))) (sym (the_zero s e f)) (
    subst (λ (t : List ℕ). Reads (fin s 0 (pos 0)) t)
    (λ i. general_of alt k (sym (power_zero (fin s 0 (pos 0)) k refl).1 i) (sym (power_zero (fin s 0 (pos 0)) k refl).0 i))
    (general_parts (fin s 0 (pos 0)) alt k 0 400 (general_of alt k 0 400) (general_right alt k 0 400)
    (zero_same s _ (general_zero s alt k (general_of alt k 0 400) (omega (arith, many)) (general_right alt k 0 400))))
    )
general_reads general_back general_zero (fin s (suc m) e) alt k f finite many few =
    let x : Float = fin s (suc m) e in
    let g = digits_of x k f (omega arith) (omega (arith, many)) (omega (arith, few)) in
    let right = general_right alt k (number_of x k) (power_of x k) in
    general_parts x alt k (number_of x k) (power_of x k) (general_of alt k (number_of x k) (power_of x k)) right
    (general_back x alt k (number_of x k) (power_of x k) (general_of alt k (number_of x k) (power_of x k)) f (omega arith) many g.few
    g.significant right)
