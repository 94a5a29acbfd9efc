-- How wide a scan has to be for each number that a conversion prints.
use Rattle.std.specs.Prelude.{ℕ, ◌+◌, ℤ, pos, negsuc, true, ◌≡◌, ◌≤◌, ◌<◌, ◌^◌, ◌||◌, nat_lt, max, if◌then◌else◌, length, unsigned_abs}
use Rattle.std.specs.Prelude.{unwrap_or, from_bits}
use Rattle.std.specs.Float.{float_is_finite}
use Rattle.std.specs.Float.Ieee.{binary64}
use Rattle.sf_base.specs.declared.real.Real.TheVariants as reals
use Rattle.sf_base.specs.Data.{Datum, Number, IsIn}
use Rattle.sf_base.specs.declared.values.Kind.{Kind}
use Rattle.sf_format.specs.declared.unit.FloatStyle.{FloatStyle}
use Rattle.sf_format.specs.declared.unit.FloatStyle.TheVariants as style
use Rattle.sf_format.specs.declared.unit.PrintLetter.{PrintLetter}
use Rattle.sf_format.specs.declared.unit.PrintLetter.TheVariants as letter
use Rattle.sf_format.specs.declared.unit.PrintConv.{PrintConv}
use Rattle.sf_print.specs.texts.Text.{value_text}
use Rattle.sf_print.specs.texts.Visible.{visible, without_blanks}
use Rattle.sf_pair.specs.conversions.Reals.{seen}

-- of the texts of the numbers of the conversion's kind, without the blanks before them, the longest has so many bytes
pub record IsLongest (c : PrintConv) (n : ℕ) : Type 0 where
  pub longest : ℤ
  pub of_kind : IsIn c.kind longest
  pub has : length (visible c longest) ≡ n
  pub none_longer : (z : ℤ) → IsIn c.kind z → length (visible c z) ≤ n

-- ---- floats

-- how a letter writes digits; of the others, which print no float, as `f` does
abbrev pub written_style : PrintLetter → FloatStyle
written_style (letter.Float l upper) = l
written_style _ = style.Fixed

-- a digit, and a point with so many digits after it where there are some, or `#` asks for it
abbrev pub pointed : PrintConv → ℕ → ℕ
pointed c decimals = 1 + (if nat_lt 0 decimals || c.alt then 1 + decimals else 0)

-- so many significant digits; without `#` one has no point
abbrev pub significant : PrintConv → ℕ → ℕ
significant c digits = if nat_lt 1 digits || c.alt then 1 + digits else 1

-- `f` writes 309 digits before the point, `e` and `g` an exponent of three, and `a` 14 digits where it has no precision,
-- and an exponent of four
abbrev pub longest_digits : FloatStyle → PrintConv → ℕ
longest_digits style.Fixed c = 308 + pointed c (unwrap_or c.precision 6)
longest_digits style.Exponent c = pointed c (unwrap_or c.precision 6) + 5
longest_digits style.General c = significant c (max (unwrap_or c.precision 6) 1) + 5
longest_digits style.Hexadecimal c = pointed c (unwrap_or c.precision 13) + 6

abbrev pub mark_digits : FloatStyle → ℕ
mark_digits style.Hexadecimal = 2
mark_digits _ = 0

-- and a minus, the `0x` of `a`, and the zeros of the flag `0`
abbrev pub longest_by : FloatStyle → PrintConv → ℕ
longest_by l c = let bare = 1 + mark_digits l + longest_digits l c in if c.zero then max bare c.width else bare

abbrev pub longest_float : PrintConv → ℕ
longest_float c = longest_by (written_style c.letter) c

-- of the texts of finite doubles, without the blanks before them, none has more bytes
abbrev pub NoneIsLonger : PrintConv → ℕ → Type 0
NoneIsLonger c n = (bits : ℕ) → float_is_finite (from_bits binary64 bits) ≡ true → length (seen c (reals.F64 bits)) ≤ n

-- ---- the numbers of a kind

-- a number is not below the one, nor above the other
abbrev pub IsBetween : ℤ → ℕ → ℤ → Type 0
IsBetween low high (pos m) = m ≤ high
IsBetween (negsuc l) high (negsuc k) = k ≤ l
IsBetween (pos l) high (negsuc k) = ⊥

-- the least and the greatest number of a kind
pub record AreExtremes (kind : Kind) (least greatest : Datum) : Type 0 where
  pub low : ℤ
  pub high : ℕ
  pub least_is : least ≡ Number kind low
  pub greatest_is : greatest ≡ Number kind (pos high)
  pub low_in : IsIn kind low
  pub high_in : IsIn kind (pos high)
  pub low_small : unsigned_abs low < 2 ^ 64
  pub high_small : high < 2 ^ 64
  pub between : (z : ℤ) → IsIn kind z → IsBetween low high z

-- of the texts of the least and the greatest number of the conversion's kind, without the blanks before them, the longer one has so many
-- bytes (C11 7.21.6.1p4 to p6)
pub record IsLongerEnd (c : PrintConv) (n : ℕ) : Type 0 where
  pub least : Datum
  pub greatest : Datum
  pub ends : AreExtremes c.kind least greatest
  pub longer : n ≡ max (length (without_blanks (value_text c least))) (length (without_blanks (value_text c greatest)))
