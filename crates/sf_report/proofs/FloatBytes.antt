-- What floats are read of: bytes.
use Rattle.std.proofs.Common.{◌≡◌, ℕ, ◌<◌, Bool, true, false, cond, ◌||◌, List, [], ◌∷◌, ◌++◌, Option, Some, None, is_some, refl, sym}
use Rattle.std.proofs.Common.{ap, ◌∙◌, arith, lit<, true≢false}
use Rattle.std.specs.Prelude.{◌==◌}
use Rattle.std.proofs.lemmas.Bool.Decides.{nat_tests}
use Rattle.std.specs.Char.{is_ascii_digit, is_ascii_hexdigit, is_ascii_alphanumeric, to_ascii_lowercase}
use Rattle.sf_float_read.specs.declared.item.reached.Forms.{Forms}
use Rattle.sf_float_read.specs.declared.item.reached.Radix.{Radix}
use Rattle.sf_float_read.specs.declared.item.reached.Radix.TheVariants.{Ten, Sixteen}
use Rattle.sf_float_read.specs.declared.item.reached.Reached.{Reached}
use Rattle.sf_float_read.specs.declared.item.reached.Reached.TheVariants as at
use Rattle.sf_float_read.specs.item.Sequences.{is_digit, opens_exponent, is_sign}
use Rattle.sf_float_read.specs.item.Tests.{after_exponent, letter_of_exponent, after_digits}
use Rattle.sf_float_read.specs.item.Tests.{first_of_number, letter, first, next, read, start_of, begins_float_of}
use Rattle.sf_float_read.proofs.ItemLemmas.Deciding.{read_more, read_nothing}

-- one that is read on with is a byte
abbrev IsByte : ℕ → Option Reached → Type 0
IsByte b o = is_some o ≡ true → b < 256

module _ (b : ℕ) where
  by_test : (test : Bool) (o p : Option Reached) → (test ≡ true → b < 256) → IsByte b p → IsByte b (cond test o p)
  by_test true o p byte rest e = byte refl
  by_test false o p byte rest e = rest e

  none : IsByte b None
  none e = absurd (true≢false (sym e))

  number_byte : is_ascii_digit b ≡ true → b < 256
  number_byte e = grind (arith, nat_tests)

  hex_byte : is_ascii_hexdigit b ≡ true → b < 256
  hex_byte e = grind (arith, nat_tests)

  digit_byte : (radix : Radix) → is_digit radix b ≡ true → b < 256
  digit_byte Ten e = number_byte e
  digit_byte Sixteen e = hex_byte e

  word_byte : is_ascii_alphanumeric b || b == 95 ≡ true → b < 256
  word_byte e = grind (arith, nat_tests)

  sign_byte : is_sign b ≡ true → b < 256
  sign_byte e = grind (arith, nat_tests)

  exponent_byte : (radix : Radix) → opens_exponent radix b ≡ true → b < 256
  exponent_byte Ten e = grind (arith, nat_tests)
  exponent_byte Sixteen e = grind (arith, nat_tests)

  lower_byte : (lower : ℕ) → lower < 256 → to_ascii_lowercase b == lower ≡ true → b < 256
  lower_byte lower low e = grind (arith, nat_tests)

  same_byte : (a : ℕ) → a < 256 → b == a ≡ true → b < 256
  same_byte a low e = grind (arith, nat_tests)

  either_byte : (c a : ℕ) → a < 256 → c < 256 → b == a || b == c ≡ true → b < 256
  either_byte c a low high e = grind (arith, nat_tests)

  after_exponent_byte : IsByte b (after_exponent b)
  after_exponent_byte = by_test (is_ascii_digit b) (Some at.Exponent) None number_byte none

  exponent_letter_byte : (radix : Radix) → IsByte b (letter_of_exponent radix b)
  exponent_letter_byte radix = by_test (opens_exponent radix b) (Some at.Letter) None (exponent_byte radix) none

  digits_byte : (radix : Radix) → IsByte b (after_digits radix b)
  digits_byte radix = by_test (is_digit radix b) (Some (at.Whole radix)) _ (digit_byte radix)
      (by_test (b == 46) (Some (at.Fraction radix)) _ (same_byte 46 (lit< tt)) (exponent_letter_byte radix))

  number_first_byte : (radix : Radix) → IsByte b (first_of_number radix b)
  number_first_byte radix = by_test (is_digit radix b) (Some (at.Whole radix)) _ (digit_byte radix)
      (by_test (b == 46) (Some (at.Point radix)) None (same_byte 46 (lit< tt)) none)

  letter_byte : (lower : ℕ) (place : Reached) → lower < 256 → IsByte b (letter b lower place)
  letter_byte lower place low = by_test (to_ascii_lowercase b == lower) (Some place) None (lower_byte lower low) none

  first_byte : IsByte b (first b)
  first_byte = by_test (b == 48) (Some at.Zero) _ (same_byte 48 (lit< tt))
      (by_test (to_ascii_lowercase b == 105) (Some at.I) _ (lower_byte 105 (lit< tt))
      (by_test (to_ascii_lowercase b == 110) (Some at.N) _ (lower_byte 110 (lit< tt)) (number_first_byte Ten)))

  next_byte : (r : Reached) → IsByte b (next r b)
  next_byte at.Start = by_test (is_sign b) (Some at.Signed) (first b) sign_byte first_byte
  next_byte at.Signed = first_byte
  next_byte at.DecimalStart = by_test (b == 45) (Some at.DecimalSigned) _ (same_byte 45 (lit< tt)) (number_first_byte Ten)
  next_byte at.DecimalSigned = number_first_byte Ten
  next_byte at.Zero = by_test (b == 120 || b == 88) (Some at.Prefix) _ (either_byte 88 120 (lit< tt) (lit< tt)) (digits_byte Ten)
  next_byte at.Prefix = number_first_byte Sixteen
  next_byte (at.Whole radix) = digits_byte radix
  next_byte (at.Point radix) = by_test (is_digit radix b) (Some (at.Fraction radix)) None (digit_byte radix) none
  next_byte (at.Fraction radix) = by_test (is_digit radix b) (Some (at.Fraction radix)) _ (digit_byte radix) (exponent_letter_byte radix)
  next_byte at.Letter = by_test (is_sign b) (Some at.LetterSign) _ sign_byte after_exponent_byte
  next_byte at.LetterSign = after_exponent_byte
  next_byte at.Exponent = after_exponent_byte
  next_byte at.I = letter_byte 110 at.In (lit< tt)
  next_byte at.In = letter_byte 102 at.Inf (lit< tt)
  next_byte at.Inf = letter_byte 105 at.Infi (lit< tt)
  next_byte at.Infi = letter_byte 110 at.Infin (lit< tt)
  next_byte at.Infin = letter_byte 105 at.Infini (lit< tt)
  next_byte at.Infini = letter_byte 116 at.Infinit (lit< tt)
  next_byte at.Infinit = letter_byte 121 at.Infinity (lit< tt)
  next_byte at.Infinity = none
  next_byte at.N = letter_byte 97 at.Na (lit< tt)
  next_byte at.Na = letter_byte 110 at.Nan (lit< tt)
  next_byte at.Nan = by_test (b == 40) (Some at.Open) None (same_byte 40 (lit< tt)) none
  next_byte at.Open = by_test (b == 41) (Some at.Closed) _ (same_byte 41 (lit< tt))
      (by_test (is_ascii_alphanumeric b || b == 95) (Some at.Open) None word_byte none)
  next_byte at.Closed = none

-- the last byte of what begins a float is a byte
pub float_byte : (forms : Forms) (f : List ℕ) (b : ℕ) → begins_float_of forms (f ++ b ∷ []) ≡ true → b < 256
float_byte forms f b h = by (read (Some (start_of forms)) f) (ap is_some (sym (read_more (Some (start_of forms)) f (b ∷ []))) ∙ h)
  where
    by : (o : Option Reached) → is_some (read o (b ∷ [])) ≡ true → b < 256
    by None e = absurd (true≢false (sym e))
    by (Some r) e = next_byte b r (ap is_some (sym (read_nothing (next r b))) ∙ e)
