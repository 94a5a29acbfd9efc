-- Numbers that are a minus and their digits, padded at most.
use Rattle.std.proofs.Common.{◌≡◌, ℕ, zero, suc, ◌-◌, ◌<◌, ◌≤◌, ◌^◌, Bool, true, false, cond, not, ◌&&◌, ◌==◌, is_none, List, [], ◌∷◌}
use Rattle.std.proofs.Common.{◌++◌, length, unsigned_abs, refl, sym, ap, ◌∙◌, arith}
use Rattle.std.specs.Fmt.{digits}
use Rattle.sf_base.specs.Data.{datum_of_number}
use Rattle.sf_base.specs.declared.number.Number as number
use Rattle.sf_format.specs.declared.unit.PrintLetter.{PrintLetter}
use Rattle.sf_format.specs.declared.unit.PrintLetter.TheVariants as letter
use Rattle.sf_format.specs.declared.unit.PrintConv.{PrintConv}
use Rattle.sf_print.specs.texts.Plain.{is_field, minus}
use Rattle.sf_print.specs.texts.Text.{all_digits, base_mark, base_of, filled, is_octal, is_upper, least_digits, numeral}
use Rattle.sf_print.specs.texts.Text.{opens_with_zero, prefix, text_around, value_text, with_octal_zero}
use Rattle.sf_print.specs.texts.Text.{with_sign, zeros}
use Rattle.sf_print.proofs.DigitLemmas.Digits.{length_some}
use Rattle.sf_print.proofs.TextLemmas.Around.{abs_of}
use Rattle.sf_print.proofs.TextLemmas.Plainness.{least_one, negated, small_of, some_below, some_least}

-- ---- the flags

parts : (a b d e : Bool) → a && b && d && e ≡ true → (a ≡ true) × (b ≡ true) × (d ≡ true) × (e ≡ true)
parts true true true true h = (refl, refl, refl, refl)
parts true true true false h = absurd cc
parts true true false e h = absurd cc
parts true false d e h = absurd cc
parts false b d e h = absurd cc

record Flags (c : PrintConv) : Type 0 where
  plus : c.plus ≡ false
  blank : c.blank ≡ false
  alt : c.alt ≡ false
  precision : is_none c.precision ≡ true

flags_of : (c : PrintConv) → is_field c ≡ true → Flags c
flags_of c field =
    let w = parts (not c.plus) (not c.blank) (not c.alt) (is_none c.precision) field in
    record { plus = negated c.plus w.0; blank = negated c.blank w.1; alt = negated c.alt w.2; precision = w.3 }

-- ---- its parts

field_prefix : (c : PrintConv) (negative : Bool) (m : ℕ) → (negative ≡ true → 0 < m) → Flags c
    → prefix c (with_sign negative m) ≡ minus negative
field_prefix c true zero some f = let lt : 0 < 0 = some refl in absurd (omega arith)
field_prefix c true (suc n) some f = ap (λ (b : Bool). 45 ∷ [] ++ cond (b && not (suc n == 0)) (base_mark c.letter) []) f.alt
field_prefix c false m some f =
    (λ i. cond (f.plus i) (43 ∷ []) (cond (f.blank i) (32 ∷ []) []) ++ cond (f.alt i && not (m == 0)) (base_mark c.letter) [])

no_octal : (a b t : Bool) (ds : List ℕ) → b ≡ false → cond (a && b && t) (48 ∷ ds) ds ≡ ds
no_octal a true t ds e = absurd cc
no_octal true false t ds e = refl
no_octal false false t ds e = refl

field_digits : (c : PrintConv) (m : ℕ) → m < 2 ^ 64 → 0 < length (digits (base_of c.letter) (is_upper c.letter) m) → Flags c
    → all_digits c m ≡ digits (base_of c.letter) (is_upper c.letter) m
field_digits c m small some f =
    let ds : List ℕ = digits (base_of c.letter) (is_upper c.letter) m in
    let least : least_digits c ≡ 1 = least_one c.precision f.precision in
    let num : numeral c m ≡ ds = some_least (m == 0) (least_digits c) ds least in
    let none : least_digits c - length ds ≡ 0 = omega (arith, least, some) in
    let full : filled c (numeral c m) ≡ ds = ap (filled c) num ∙ ap (λ (n : ℕ). zeros n ++ ds) none in
    ap (with_octal_zero c) full ∙ no_octal (is_octal c.letter) c.alt (not (opens_with_zero ds)) ds f.alt

base_small : (l : PrintLetter) → (2 ≤ base_of l) × (base_of l ≤ 16)
base_small letter.Octal = (omega arith, omega arith)
base_small letter.HexLower = (omega arith, omega arith)
base_small letter.HexUpper = (omega arith, omega arith)
base_small letter.Binary = (omega arith, omega arith)
base_small letter.Signed = (omega arith, omega arith)
base_small letter.Unsigned = (omega arith, omega arith)
base_small letter.Text = (omega arith, omega arith)
base_small letter.One = (omega arith, omega arith)
base_small (letter.Float style upper) = (omega arith, omega arith)

-- the text of a number from its digits
pub field_text : (c : PrintConv) (n : number.Number) (ds : List ℕ) → is_field c ≡ true
    → ds ≡ digits (base_of c.letter) (is_upper c.letter) n.magnitude
    → text_around c (minus n.negative) ds ≡ value_text c (datum_of_number n)
field_text c n ds field is =
    let f = flags_of c field in
    let m : ℕ = n.magnitude in
    let small : m < 2 ^ 64 = small_of n.kind n.negative m n.held in
    let base = base_small c.letter in
    let some : 0 < length (digits (base_of c.letter) (is_upper c.letter) m) =
    length_some (base_of c.letter) (is_upper c.letter) m base.0 base.1 small in
    let p : prefix c (with_sign n.negative m) ≡ minus n.negative = field_prefix c n.negative m
    (some_below n.kind n.negative m n.held) f in
    let d : all_digits c (unsigned_abs (with_sign n.negative m)) ≡ digits (base_of c.letter) (is_upper c.letter) m =
    ap (all_digits c) (abs_of n.negative m) ∙ field_digits c m small some f in
    ap (text_around c (minus n.negative)) is ∙ sym (λ i. text_around c (p i) (d i))
