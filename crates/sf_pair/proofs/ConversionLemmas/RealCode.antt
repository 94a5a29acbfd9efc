-- Floats, as the code tests and counts them.
use Rattle.std.proofs.Common.{◌≡◌, ℕ, ◌+◌, ◌-◌, Bool, true, false, cond, ◌&&◌, ◌||◌, nat_lt, nat_eq, List, length, max, from_bits, Option}
use Rattle.std.proofs.Common.{Some, None, unwrap_or, refl, sym, ap, ◌∙◌, arith, true≢false}
use Rattle.std.specs.Prelude.{not}
use Rattle.std.specs.Option.{option_eq}
use Rattle.std.specs.Float.Ieee.{Float, binary64}
use Rattle.sf_format.specs.declared.unit.FloatStyle.{FloatStyle}
use Rattle.sf_format.specs.declared.unit.FloatStyle.TheVariants as style
use Rattle.sf_format.specs.declared.unit.PrintConv.{PrintConv}
use Rattle.sf_format.specs.declared.unit.PrintLetter.TheVariants as letter
use Rattle.sf_float.specs.declared.text.Style.{Style}
use Rattle.sf_float.specs.declared.text.Style.TheVariants.{Fixed, Exponent, General, Hexadecimal}
use Rattle.sf_float.specs.Printed.{is_hexadecimal}
use Rattle.sf_float.specs.Computed.{size_text, float_text}
use Rattle.sf_float_read.specs.declared.item.reached.Forms.TheVariants as forms
use Rattle.sf_float_read.specs.item.Sequences.{IsFloat}
use Rattle.sf_float_read.specs.item.Tests.{is_float}
use Rattle.sf_float_read.specs.value.Values.{IsStored}
use Rattle.sf_float_read.specs.value.Computed.{stored_in}
use Rattle.sf_print.specs.texts.Floats.{style_of, float_conv}
use Rattle.sf_print.specs.texts.Visible.{without_blanks}
use Rattle.sf_pair.specs.conversions.Below.{LawsBelow}
use Rattle.sf_pair.specs.conversions.Reals.{zero_seen, is_pattern, is_read_as}
use Rattle.sf_pair.proofs.ConversionLemmas.RealSizes.{pointed_size, zero_is, zero_digits, zero_digits_are, zero_seen_size}

pattern_eq : (o : Option ℕ) (bits : ℕ) → option_eq nat_eq o (Some bits) ≡ is_pattern o bits
pattern_eq None bits = refl
pattern_eq (Some b) bits = refl

pub read_as_so : LawsBelow → (item : List ℕ) (bits : ℕ) (o : Option ℕ) (r : Bool) → IsFloat item → IsStored binary64 item o
    → r ≡ option_eq nat_eq o (Some bits) → r ≡ is_read_as item bits
read_as_so laws item bits o r float stored e =
    let k = (laws.stored binary64 item).1 o stored in
    e ∙ pattern_eq o bits ∙ ap (λ (o : Option ℕ). is_pattern o bits) k.1
    ∙ sym (ap (λ (t : Bool). t && is_pattern (stored_in binary64 item) bits) ((laws.floats forms.All item).0.1 float))

pub not_read_as : LawsBelow → (item : List ℕ) (bits : ℕ) (r : Bool) → r ≡ false → (IsFloat item → r ≡ true) → r ≡ is_read_as item bits
not_read_as laws item bits r none is = none ∙ by (is_float item) refl
  where
    by : (t : Bool) → is_float item ≡ t → false ≡ (t && is_pattern (stored_in binary64 item) bits)
    by false e = refl
    by true e = absurd (true≢false (sym (is ((laws.floats forms.All item).0.0 e)) ∙ none))

-- the digits of 0
pub zero_size : (s : Style) (alt : Bool) (precision : Option ℕ)
    → length (size_text s alt precision (from_bits binary64 0)) ≡ zero_digits s alt precision
zero_size s alt precision = ap (λ (x : Float). length (size_text s alt precision x)) zero_is ∙ zero_digits_are s alt precision

abbrev size_by_code : FloatStyle → PrintConv → ℕ
size_by_code l c = length (size_text (style_of (letter.Float l false)) c.alt c.precision (from_bits binary64 0))

pub fixed_len : (c : PrintConv) (l : FloatStyle) (d n : ℕ) → l ≡ style.Fixed → d ≡ unwrap_or c.precision 6
    → n ≡ 1 + cond (nat_lt 0 d || c.alt) (1 + d) 0 → n ≡ size_by_code l c
fixed_len c l d n e f is = is ∙ ap (λ (d : ℕ). 1 + pointed_size c.alt d) f
    ∙ sym (ap (λ (l : FloatStyle). size_by_code l c) e ∙ zero_size Fixed c.alt c.precision)

pub exponent_len : (c : PrintConv) (l : FloatStyle) (d n : ℕ) → l ≡ style.Exponent → d ≡ unwrap_or c.precision 6
    → n ≡ 1 + cond (nat_lt 0 d || c.alt) (1 + d) 0 → n + 4 ≡ size_by_code l c
exponent_len c l d n e f is =
    let here : n ≡ 1 + pointed_size c.alt (unwrap_or c.precision 6) = is ∙ ap (λ (d : ℕ). 1 + pointed_size c.alt d) f in
    omega (arith, here, ap (λ (l : FloatStyle). size_by_code l c) e, zero_size Exponent c.alt c.precision)

pub general_len : (c : PrintConv) (l : FloatStyle) (d k n : ℕ) → l ≡ style.General → d ≡ unwrap_or c.precision 6 → c.alt ≡ true
    → k ≡ max d 1 → n ≡ 1 + cond (nat_lt 0 (k - 1) || true) (1 + (k - 1)) 0 → n ≡ size_by_code l c
general_len c l d k n e f alt m is =
    let all : n ≡ 2 + (k - 1) = is ∙ always (nat_lt 0 (k - 1)) in
    let digits : k ≡ max (unwrap_or c.precision 6) 1 = m ∙ ap (λ (d : ℕ). max d 1) f in
    let size : size_by_code l c ≡ cond c.alt (max (unwrap_or c.precision 6) 1 + 1) 1 =
    ap (λ (l : FloatStyle). size_by_code l c) e ∙ zero_size General c.alt c.precision in
    let long : size_by_code l c ≡ max (unwrap_or c.precision 6) 1 + 1 =
    size ∙ ap (λ (t : Bool). cond t (max (unwrap_or c.precision 6) 1 + 1) 1) alt in
    omega (arith, all, digits, long, m)
  where
    always : (t : Bool) → 1 + cond (t || true) (1 + (k - 1)) 0 ≡ 2 + (k - 1)
    always true = omega arith
    always false = omega arith

pub lone_len : (c : PrintConv) (l : FloatStyle) → l ≡ style.General → c.alt ≡ false → 1 ≡ size_by_code l c
lone_len c l e alt = sym (ap (λ (l : FloatStyle). size_by_code l c) e ∙ zero_size General c.alt c.precision
    ∙ ap (λ (t : Bool). cond t (max (unwrap_or c.precision 6) 1 + 1) 1) alt)

pub hexadecimal_len : (c : PrintConv) (l : FloatStyle) (d n : ℕ) → l ≡ style.Hexadecimal → d ≡ unwrap_or c.precision 0
    → n ≡ 1 + cond (nat_lt 0 d || c.alt) (1 + d) 0 → n + 3 ≡ size_by_code l c
hexadecimal_len c l d n e f is =
    let here : n ≡ 1 + pointed_size c.alt (unwrap_or c.precision 0) = is ∙ ap (λ (d : ℕ). 1 + pointed_size c.alt d) f in
    omega (arith, here, ap (λ (l : FloatStyle). size_by_code l c) e, zero_size Hexadecimal c.alt c.precision)

-- the whole
pub zero_len_so : (c : PrintConv) (l : FloatStyle) (signed hidden_one mark_two digits n : ℕ)
    → style_of (letter.Float l false) ≡ style_of c.letter → signed ≡ cond (c.plus || c.blank) 1 0
    → hidden_one ≡ cond (c.blank && not c.plus) 1 0 → mark_two ≡ cond (is_hexadecimal (style_of (letter.Float l false))) 2 0
    → digits ≡ size_by_code l c
    → n ≡ cond (c.zero || c.minus) (max (signed + mark_two + digits) c.width) (signed + mark_two + digits)
    → n - hidden_one ≡ length (zero_seen c)
zero_len_so c l signed hidden_one mark_two digits n e s h k d is =
    zero_seen_size (float_conv c) signed hidden_one mark_two digits n s h (k ∙ ap (λ (t : Style). cond (is_hexadecimal t) 2 0) e)
    (d ∙ zero_size (style_of (letter.Float l false)) c.alt c.precision ∙ ap (λ (t : Style). zero_digits t c.alt c.precision) e) is
    ∙ sym (ap (λ (x : Float). length (without_blanks (float_text (float_conv c) x))) zero_is)
