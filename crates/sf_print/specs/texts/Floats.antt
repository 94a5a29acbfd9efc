-- Floats as they are printed (C11 7.21.6.1p8).
use Rattle.std.specs.Prelude.{ℕ, Bool, false, List, Option, Some, None, from_bits}
use Rattle.std.specs.Float.Ieee.{Float, binary32, binary64}
use Rattle.sf_base.specs.Data.{Datum}
use Rattle.sf_base.specs.Data.Datum.{Real}
use Rattle.sf_base.specs.declared.real.Real as real
use Rattle.sf_base.specs.declared.real.Real.TheVariants as reals
use Rattle.sf_format.specs.declared.unit.FloatStyle.TheVariants as letters
use Rattle.sf_format.specs.declared.unit.PrintLetter.{PrintLetter}
use Rattle.sf_format.specs.declared.unit.PrintLetter.TheVariants as letter
use Rattle.sf_format.specs.declared.unit.PrintConv.{PrintConv}
use Rattle.sf_float.specs.declared.text.Style.{Style}
use Rattle.sf_float.specs.declared.text.Style.TheVariants as style
use Rattle.sf_float.specs.declared.text.FloatConv.{FloatConv}
use Rattle.sf_float.specs.Computed.{float_text}

-- the number of a float; one of binary32 is one of binary64 too
abbrev pub number_of : real.Real → Float
number_of (reals.F32 bits) = from_bits binary32 bits
number_of (reals.F64 bits) = from_bits binary64 bits

-- the float that a value is
abbrev pub real_of : Datum → Option real.Real
real_of (Real r) = Some r
real_of _ = None

-- how a letter writes digits; of the others, which print no float, as f does
abbrev pub style_of : PrintLetter → Style
style_of (letter.Float letters.Exponent upper) = style.Exponent
style_of (letter.Float letters.General upper) = style.General
style_of (letter.Float letters.Hexadecimal upper) = style.Hexadecimal
style_of _ = style.Fixed

abbrev pub is_capital : PrintLetter → Bool
is_capital (letter.Float style upper) = upper
is_capital _ = false

abbrev pub float_conv : PrintConv → FloatConv
float_conv c = record {
  style = style_of c.letter;
  upper = is_capital c.letter;
  minus = c.minus;
  plus = c.plus;
  blank = c.blank;
  alt = c.alt;
  zero = c.zero;
  width = c.width;
  precision = c.precision;
}

-- the text of a float: that of its number, which has no other (sf_float's `one_text`)
abbrev pub real_text : PrintConv → real.Real → List ℕ
real_text c r = float_text (float_conv c) (number_of r)
