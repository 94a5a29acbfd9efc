-- The text of a plain conversion is a minus and digits alone.
use Rattle.std.proofs.Common.{◌≡◌, ℕ, zero, suc, ◌+◌, ◌-◌, ◌≤◌, ◌<◌, ◌^◌, Bool, true, false, cond, not, ◌&&◌, ◌==◌, is_none, List, [], ◌∷◌}
use Rattle.std.proofs.Common.{◌++◌, length, unsigned_abs, unwrap_or, Option, Some, None, eqb, nat_lt, nat_le, subst, refl, ap, ◌∙◌, arith}
use Rattle.std.proofs.Common.{append-nil}
use Rattle.std.proofs.lemmas.Bool.{eqb-true, leb-true, ltb-true}
use Rattle.std.proofs.lemmas.Fmt.{decimal_is_IsNumeral}
use Rattle.std.specs.Char.{digit_value}
use Rattle.std.specs.Fmt.{decimal, digits}
use Rattle.std.specs.Str.Parse.{AllDigits}
use mir.Val.{bool_byte}
use Rattle.sf_print.specs.texts.Visible.{without_blanks}
use Rattle.sf_base.specs.Data.{Datum, datum_of_number}
use Rattle.sf_base.specs.Kinds.{is_held}
use Rattle.sf_base.specs.declared.number.Number as number
use Rattle.sf_base.specs.declared.values.Kind.{Kind}
use Rattle.sf_base.specs.declared.values.Kind.TheVariants.{I8, I16, I32, I64, U8, U16, U32, U64, Text, F32, F64}
use Rattle.sf_base.specs.Data.Datum.{Number, Bytes, Real}
use Rattle.sf_format.specs.declared.unit.PrintLetter.{PrintLetter}
use Rattle.sf_format.specs.declared.unit.PrintLetter.TheVariants as letter
use Rattle.sf_format.specs.declared.unit.PrintConv.{PrintConv}
use Rattle.sf_print.specs.texts.Text.{base_of, is_upper, is_octal, base_mark, integer_text, value_text, with_sign, prefix, numeral}
use Rattle.sf_print.specs.texts.Text.{all_digits}
use Rattle.sf_print.specs.texts.Text.{filled, with_octal_zero, least_digits, opens_with_zero, blanks, zeros, left_blanks, inner_zeros}
use Rattle.sf_print.specs.texts.Text.{right_blanks, pads_with_zeros, short_by, text_around}
use Rattle.sf_print.specs.texts.Plain.{minus, is_decimal, is_plain}
use Rattle.sf_print.specs.texts.Printables.{IsOf}
use Rattle.sf_print.specs.declared.texts.text.Printable.TheVariants as printable
use Rattle.sf_print.proofs.DigitLemmas.FourDigits.{length_at_most}
use Rattle.sf_print.proofs.TextLemmas.Around.{abs_of}
use Rattle.sf_print.proofs.DigitLemmas.Digits.{length_some}

none_of : (b : Bool) (n : ℕ) → n ≡ 0 → cond b n 0 ≡ 0
none_of true n e = e
none_of false n e = refl

none_left : (a b : Bool) (n : ℕ) → n ≡ 0 → cond a 0 (cond b 0 n) ≡ 0
none_left true b n e = refl
none_left false true n e = refl
none_left false false n e = e

unpadded : (c : PrintConv) (p ds : List ℕ) → c.width ≡ 0 → text_around c p ds ≡ p ++ ds
unpadded c p ds w =
    let len = length p + length ds in
    let short : short_by c len ≡ 0 = omega arith in
    let l : left_blanks c len ≡ 0 = none_left c.minus (pads_with_zeros c) (short_by c len) short in
    let n : inner_zeros c len ≡ 0 = none_of (pads_with_zeros c) (short_by c len) short in
    let r : right_blanks c len ≡ 0 = none_of c.minus (short_by c len) short in
    (λ i. blanks (l i) ++ p ++ zeros (n i) ++ ds ++ blanks (r i)) ∙ append-nil ((p ++ []) ++ ds)
    ∙ ap (λ (t : List ℕ). t ++ ds) (append-nil p)

-- what a decimal letter has
decimal_letter : (l : PrintLetter) → is_decimal l ≡ true → (base_of l ≡ 10) × (is_upper l ≡ false) × (is_octal l ≡ false)
    × (base_mark l ≡ [])
decimal_letter letter.Signed e = (refl, refl, refl, refl)
decimal_letter letter.Unsigned e = (refl, refl, refl, refl)
decimal_letter letter.Octal e = absurd cc
decimal_letter letter.HexLower e = absurd cc
decimal_letter letter.HexUpper e = absurd cc
decimal_letter letter.Binary e = absurd cc
decimal_letter letter.Text e = absurd cc
decimal_letter letter.One e = absurd cc
decimal_letter (letter.Float style upper) e = absurd cc

no_mark : (b : Bool) (m : List ℕ) → m ≡ [] → cond b m [] ≡ []
no_mark true m e = e
no_mark false m e = refl

pub least_one : (p : Option ℕ) → is_none p ≡ true → unwrap_or p 1 ≡ 1
least_one None e = refl
least_one (Some n) e = absurd cc

plain_prefix : (c : PrintConv) (negative : Bool) (m : ℕ) → (negative ≡ true → 0 < m) → c.plus ≡ false → c.blank ≡ false
    → base_mark c.letter ≡ [] → prefix c (with_sign negative m) ≡ minus negative
plain_prefix c true zero h p b k = let lt : 0 < 0 = h refl in absurd (omega arith)
plain_prefix c true (suc n) h p b k = ap (λ (t : List ℕ). 45 ∷ [] ++ t) (no_mark (c.alt && not (suc n == 0)) (base_mark c.letter) k)
plain_prefix c false m h p b k =
    (λ i. cond (p i) (43 ∷ []) (cond (b i) (32 ∷ []) []) ++ no_mark (c.alt && not (m == 0)) (base_mark c.letter) k i)

pub some_least : (b : Bool) (k : ℕ) (ds : List ℕ) → k ≡ 1 → cond (b && k == 0) [] ds ≡ ds
some_least b k ds e = ap (λ (n : ℕ). cond (b && n == 0) [] ds) e ∙ by b
  where
    by : (t : Bool) → cond (t && false) [] ds ≡ ds
    by true = refl
    by false = refl

octal_kept : (c : PrintConv) (ds : List ℕ) → is_octal c.letter ≡ false → with_octal_zero c ds ≡ ds
octal_kept c ds e = by (is_octal c.letter) c.alt (not (opens_with_zero ds)) e
  where
    by : (a b t : Bool) → a ≡ false → cond (a && b && t) (48 ∷ ds) ds ≡ ds
    by true b t h = absurd cc
    by false b t h = refl

pub negated : (b : Bool) → not b ≡ true → b ≡ false
negated true e = absurd cc
negated false e = refl

parts : (a b d e f : Bool) → a && b && d && e && f ≡ true → (a ≡ true) × (b ≡ true) × (d ≡ true) × (e ≡ true) × (f ≡ true)
parts true true true true true h = (refl, refl, refl, refl, refl)
parts true true true true false h = absurd cc
parts true true true false f h = absurd cc
parts true true false e f h = absurd cc
parts true false d e f h = absurd cc
parts false b d e f h = absurd cc

plain_digits : (c : PrintConv) (m : ℕ) → m < 2 ^ 64 → base_of c.letter ≡ 10 → is_upper c.letter ≡ false → is_octal c.letter ≡ false
    → least_digits c ≡ 1 → all_digits c m ≡ decimal m
plain_digits c m small ten low octal least =
    let ds : List ℕ = digits (base_of c.letter) (is_upper c.letter) m in
    let e : ds ≡ decimal m = (λ i. digits (ten i) (low i) m) in
    let num : numeral c m ≡ decimal m = some_least (m == 0) (least_digits c) ds least ∙ e in
    let some : 0 < length (decimal m) = length_some 10 false m (omega arith) (omega arith) small in
    let none : least_digits c - length (decimal m) ≡ 0 = omega arith in
    let full : filled c (numeral c m) ≡ decimal m = ap (filled c) num ∙ ap (λ n. zeros n ++ decimal m) none in
    ap (with_octal_zero c) full ∙ octal_kept c (decimal m) octal

pub plain_text : (c : PrintConv) (negative : Bool) (m : ℕ) → is_plain c ≡ true → (negative ≡ true → 0 < m) → m < 2 ^ 64
    → integer_text c (with_sign negative m) ≡ minus negative ++ decimal m
plain_text c negative m plain proper small =
    let w = parts (is_decimal c.letter) (c.width == 0) (not c.plus) (not c.blank) (is_none c.precision) plain in
    let l = decimal_letter c.letter w.0 in
    let abs : unsigned_abs (with_sign negative m) ≡ m = abs_of negative m in
    let p : prefix c (with_sign negative m) ≡ minus negative = plain_prefix c negative m proper (negated c.plus w.2)
    (negated c.blank w.3) l.3 in
    let d : all_digits c (unsigned_abs (with_sign negative m)) ≡ decimal m =
    ap (all_digits c) abs ∙ plain_digits c m small l.0 l.1 l.2 (least_one c.precision w.4) in
    (λ i. text_around c (p i) (d i)) ∙ unpadded c (minus negative) (decimal m) (eqb-true _ _ w.1)

pub plain_value : (c : PrintConv) (negative : Bool) (m : ℕ) (value : Datum) → is_plain c ≡ true → IsOf (printable.Number negative m) value
    → value_text c value ≡ minus negative ++ decimal m
plain_value c negative m (Number k z) plain (is, proper, small) = ap (integer_text c) is ∙ plain_text c negative m plain proper small
plain_value c negative m (Bytes bytes) plain is = absurd is
plain_value c negative m (Real r) plain is = absurd is

pub plain_length : (negative : Bool) (m : ℕ) (value : Datum) → IsOf (printable.Number negative m) value → length (decimal m) ≤ 20
plain_length negative m (Number k z) (is, proper, small) = length_at_most m small
plain_length negative m (Bytes bytes) is = absurd is
plain_length negative m (Real r) is = absurd is

pub plain_fits : (negative : Bool) (m : ℕ) (value : Datum) → IsOf (printable.Number negative m) value → m < 2 ^ 64
plain_fits negative m (Number k z) (is, proper, small) = small
plain_fits negative m (Bytes bytes) is = absurd is
plain_fits negative m (Real r) is = absurd is

-- ---- what is seen of it

digits_seen : (ds : List ℕ) → AllDigits 10 ds → without_blanks ds ≡ ds
digits_seen [] all = refl
digits_seen (d ∷ ds) all = by (eqb d 32) refl
  where
    by : (t : Bool) → eqb d 32 ≡ t → cond t (without_blanks ds) (d ∷ ds) ≡ d ∷ ds
    by true e = let low : digit_value 32 < 10 = subst (λ (x : ℕ). digit_value x < 10) (eqb-true d 32 e) all.0 in absurd (omega (arith, low))
    by false e = refl

number_seen : (negative : Bool) (m : ℕ) → m < 2 ^ 64 → without_blanks (minus negative ++ decimal m) ≡ minus negative ++ decimal m
number_seen true m small = refl
number_seen false m small = digits_seen (decimal m) (decimal_is_IsNumeral m small).0.1

number_length : (negative : Bool) (m : ℕ) → length (minus negative ++ decimal m) ≡ bool_byte negative + length (decimal m)
number_length true m = omega arith
number_length false m = omega arith

pub length_seen : (negative : Bool) (m : ℕ) (text : List ℕ) → m < 2 ^ 64 → text ≡ minus negative ++ decimal m
    → length (without_blanks text) ≡ bool_byte negative + length (decimal m)
length_seen negative m text small is = ap (λ (t : List ℕ). length (without_blanks t)) is ∙ ap length (number_seen negative m small)
    ∙ number_length negative m

-- ---- numbers by their sign and magnitude

some_less : (m : ℕ) (b : Bool) → nat_lt 0 m && b ≡ true → 0 < m
some_less m b e = by (nat_lt 0 m) refl e
  where
    by : (t : Bool) → nat_lt 0 m ≡ t → t && b ≡ true → 0 < m
    by true h e = ltb-true 0 m h
    by false h e = absurd cc

pub some_below : (k : Kind) (negative : Bool) (m : ℕ) → is_held k negative m ≡ true → negative ≡ true → 0 < m
some_below k false m held e = absurd cc
some_below I8 true m held e = some_less m (nat_le m (2 ^ 7)) held
some_below I16 true m held e = some_less m (nat_le m (2 ^ 15)) held
some_below I32 true m held e = some_less m (nat_le m (2 ^ 31)) held
some_below I64 true m held e = some_less m (nat_le m (2 ^ 63)) held
some_below U8 true m held e = absurd cc
some_below U16 true m held e = absurd cc
some_below U32 true m held e = absurd cc
some_below U64 true m held e = absurd cc
some_below Text true m held e = absurd cc
some_below F32 true m held e = absurd cc
some_below F64 true m held e = absurd cc

most_of : (m n : ℕ) (a : Bool) → a && nat_le m n ≡ true → m ≤ n
most_of m n true e = leb-true m n e
most_of m n false e = absurd cc

pub small_of : (k : Kind) (negative : Bool) (m : ℕ) → is_held k negative m ≡ true → m < 2 ^ 64
small_of I8 false m held = omega (arith, ltb-true m (2 ^ 7) held)
small_of I16 false m held = omega (arith, ltb-true m (2 ^ 15) held)
small_of I32 false m held = omega (arith, ltb-true m (2 ^ 31) held)
small_of I64 false m held = omega (arith, ltb-true m (2 ^ 63) held)
small_of U8 false m held = omega (arith, ltb-true m (2 ^ 8) held)
small_of U16 false m held = omega (arith, ltb-true m (2 ^ 16) held)
small_of U32 false m held = omega (arith, ltb-true m (2 ^ 32) held)
small_of U64 false m held = omega (arith, ltb-true m (2 ^ 64) held)
small_of I8 true m held = omega (arith, most_of m (2 ^ 7) (nat_lt 0 m) held)
small_of I16 true m held = omega (arith, most_of m (2 ^ 15) (nat_lt 0 m) held)
small_of I32 true m held = omega (arith, most_of m (2 ^ 31) (nat_lt 0 m) held)
small_of I64 true m held = omega (arith, most_of m (2 ^ 63) (nat_lt 0 m) held)
small_of U8 true m held = absurd cc
small_of U16 true m held = absurd cc
small_of U32 true m held = absurd cc
small_of U64 true m held = absurd cc
small_of Text negative m held = absurd cc
small_of F32 negative m held = absurd cc
small_of F64 negative m held = absurd cc

pub plain_shown : (c : PrintConv) (n : number.Number) → is_plain c ≡ true
    → value_text c (datum_of_number n) ≡ minus n.negative ++ decimal n.magnitude
plain_shown c n plain = plain_text c n.negative n.magnitude plain (some_below n.kind n.negative n.magnitude n.held)
    (small_of n.kind n.negative n.magnitude n.held)
