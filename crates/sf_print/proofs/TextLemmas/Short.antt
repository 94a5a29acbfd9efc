-- How long a number's text is at most, and a short text's.
use Rattle.std.proofs.Common.{◌≡◌, ℕ, ◌+◌, ◌-◌, ◌≤◌, Bool, true, false, cond, ◌&&◌, not, ◌==◌, List, [], ◌∷◌, ◌++◌, length}
use Rattle.std.proofs.Common.{take, drop, ℤ, pos, negsuc, unsigned_abs, unwrap_or, Option, Some, None, IfSome}
use Rattle.std.proofs.Common.{ap, arith, length-append}
use Rattle.std.proofs.lemmas.List.{length-replicate, take-append-drop}
use Rattle.std.specs.Fmt.{digits}
use Rattle.sf_format.specs.declared.unit.PrintLetter.{PrintLetter}
use Rattle.sf_format.specs.declared.unit.PrintLetter.TheVariants as letter
use Rattle.sf_format.specs.declared.unit.PrintConv.{PrintConv}
use Rattle.sf_print.specs.texts.Text.{base_of, is_upper, is_octal, base_mark, integer_text, bytes_text, shown_bytes, first_bytes}
use Rattle.sf_print.specs.texts.Text.{sign, mark, prefix, numeral, all_digits, filled, least_digits, opens_with_zero, blanks, zeros}
use Rattle.sf_print.specs.texts.Text.{left_blanks}
use Rattle.sf_print.specs.texts.Text.{inner_zeros, right_blanks, pads_with_zeros, short_by}
use Rattle.sf_print.proofs.DigitLemmas.Digits.{length_most}

-- either of two numbers
at_most : (b : Bool) (m n most : ℕ) → m ≤ most → n ≤ most → cond b m n ≤ most
at_most true m n most h k = h
at_most false m n most h k = k

-- either of two lists
one_of : (b : Bool) (xs ys : List ℕ) (most : ℕ) → length xs ≤ most → length ys ≤ most → length (cond b xs ys) ≤ most
one_of true xs ys most h k = h
one_of false xs ys most h k = k

length_five : (a b d e f : List ℕ) → length (a ++ b ++ d ++ e ++ f) ≡ length a + length b + length d + length e + length f
length_five a b d e f = omega (
  arith,
  length-append a b,
  length-append (a ++ b) d,
  length-append (a ++ b ++ d) e,
  length-append (a ++ b ++ d ++ e) f,
)

-- ---- integers

sign_short : (c : PrintConv) (z : ℤ) → length (sign c z) ≤ 1
sign_short c (negsuc n) = omega arith
sign_short c (pos n) = one_of c.plus (43 ∷ []) (cond c.blank (32 ∷ []) []) 1 (omega arith)
    (one_of c.blank (32 ∷ []) [] 1 (omega arith) (omega arith))

base_mark_short : (l : PrintLetter) → length (base_mark l) ≤ 2
base_mark_short letter.HexLower = omega arith
base_mark_short letter.HexUpper = omega arith
base_mark_short letter.Binary = omega arith
base_mark_short letter.Signed = omega arith
base_mark_short letter.Unsigned = omega arith
base_mark_short letter.Octal = omega arith
base_mark_short letter.Text = omega arith
base_mark_short letter.One = omega arith
base_mark_short (letter.Float style upper) = omega arith

prefix_short : (c : PrintConv) (z : ℤ) → length (prefix c z) ≤ 3
prefix_short c z =
    omega (
      arith,
      length-append (sign c z) (mark c (unsigned_abs z)),
      sign_short c z,
      one_of (c.alt && not (unsigned_abs z == 0)) (base_mark c.letter) [] 2 (base_mark_short c.letter) (omega arith),
    )

pub least_small : (p : Option ℕ) → IfSome p (λ n. n ≤ 255) → unwrap_or p 1 ≤ 255
least_small None h = omega arith
least_small (Some n) h = h

numeral_short : (c : PrintConv) (m : ℕ) → length (numeral c m) ≤ 64
numeral_short c m =
    one_of (m == 0 && least_digits c == 0) [] (digits (base_of c.letter) (is_upper c.letter) m) 64 (omega arith)
    (length_most (base_of c.letter) (is_upper c.letter) m)

filled_short : (c : PrintConv) (ds : List ℕ) → least_digits c ≤ 255 → length ds ≤ 64 → length (filled c ds) ≤ 319
filled_short c ds h k = omega (
  arith,
  length-append (zeros (least_digits c - length ds)) ds,
  length-replicate {A = ℕ} (least_digits c - length ds) 48,
)

digits_short : (c : PrintConv) (m : ℕ) → least_digits c ≤ 255 → length (all_digits c m) ≤ 320
digits_short c m h =
    let ds : List ℕ = filled c (numeral c m) in
    let short : length ds ≤ 319 = filled_short c (numeral c m) h (numeral_short c m) in
    one_of (is_octal c.letter && c.alt && not (opens_with_zero ds)) (48 ∷ ds) ds 320 (omega arith) (omega arith)

pub integer_short : (c : PrintConv) (z : ℤ) → c.width ≤ 65535 → least_digits c ≤ 255 → length (integer_text c z) ≤ 200000
integer_short c z wide precise =
    let ds : List ℕ = all_digits c (unsigned_abs z) in
    let len : ℕ = length (prefix c z) + length ds in
    let w : short_by c len ≤ 65535 = omega arith in
    let l : left_blanks c len ≤ 65535 = at_most c.minus 0 (cond (pads_with_zeros c) 0 (short_by c len)) 65535 (omega arith)
    (at_most (pads_with_zeros c) 0 (short_by c len) 65535 (omega arith) w) in
    let n : inner_zeros c len ≤ 65535 = at_most (pads_with_zeros c) (short_by c len) 0 65535 w (omega arith) in
    let r : right_blanks c len ≤ 65535 = at_most c.minus (short_by c len) 0 65535 w (omega arith) in
    omega (
      arith,
      length_five (blanks (left_blanks c len)) (prefix c z) (zeros (inner_zeros c len)) ds (blanks (right_blanks c len)),
      length-replicate {A = ℕ} (left_blanks c len) 32,
      length-replicate {A = ℕ} (inner_zeros c len) 48,
      length-replicate {A = ℕ} (right_blanks c len) 32,
      prefix_short c z,
      digits_short c (unsigned_abs z) precise,
    )

-- ---- texts

first_short : (p : Option ℕ) (bytes : List ℕ) → length (first_bytes p bytes) ≤ length bytes
first_short None bytes = omega arith
first_short (Some n) bytes = omega (arith, ap length (take-append-drop n bytes), length-append (take n bytes) (drop n bytes))

shown_short : (l : PrintLetter) (p : Option ℕ) (bytes : List ℕ) → length (shown_bytes l p bytes) ≤ length bytes
shown_short letter.Text p bytes = first_short p bytes
shown_short letter.Signed p bytes = omega arith
shown_short letter.Unsigned p bytes = omega arith
shown_short letter.Octal p bytes = omega arith
shown_short letter.HexLower p bytes = omega arith
shown_short letter.HexUpper p bytes = omega arith
shown_short letter.Binary p bytes = omega arith
shown_short letter.One p bytes = omega arith
shown_short (letter.Float style upper) p bytes = omega arith

pub bytes_short : (c : PrintConv) (bytes : List ℕ) → c.width ≤ 65535 → length bytes ≤ 65536 → length (bytes_text c bytes) ≤ 200000
bytes_short c bytes wide few =
    let shown : List ℕ = shown_bytes c.letter c.precision bytes in
    let short : ℕ = short_by c (length shown) in
    let left : ℕ = cond c.minus 0 short in
    let right : ℕ = cond c.minus short 0 in
    let l : left ≤ 65535 = at_most c.minus 0 short 65535 (omega arith) (omega arith) in
    let r : right ≤ 65535 = at_most c.minus short 0 65535 (omega arith) (omega arith) in
    omega (
      arith,
      length-append (blanks left) shown,
      length-append (blanks left ++ shown) (blanks right),
      length-replicate {A = ℕ} left 32,
      length-replicate {A = ℕ} right 32,
      shown_short c.letter c.precision bytes,
    )
