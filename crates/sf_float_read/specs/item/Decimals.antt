-- Decimal numerals without an exponent that end within a piece of the input (C11 7.22.1.3p3).
use Rattle.std.specs.Prelude.{◌≡◌, ℕ, ◌+◌, ◌<◌, Bool, false, List, ◌∷◌, ◌++◌, length, take}
use Rattle.std.specs.Fmt.{sign_text}
use Rattle.std.specs.Str.Parse.{AllDigits, digits_value}
use Rattle.sf_float_read.specs.declared.item.decimal.Decimal.{Decimal}
use Rattle.sf_float_read.specs.item.Sequences.{IsFloat}
use Rattle.sf_float_read.specs.item.Tests.{begins_float}

-- a minus or none, digits, a point and digits or none: the number of all digits, and how many stand after the point
pub record IsDecimal (text : List ℕ) (negative : Bool) (digits places : ℕ) : Type 0 where
  pub whole : List ℕ
  pub fraction : List ℕ
  pub whole_digits : AllDigits 10 whole
  pub fraction_digits : AllDigits 10 fraction
  pub some : 0 < length whole
  pub joined : text ≡ sign_text negative ++ (whole ++ 46 ∷ fraction)
  pub number : digits ≡ digits_value 10 (whole ++ fraction)
  pub after : places ≡ length fraction

-- The piece begins with the numeral, a matching sequence. With the byte after it no matching sequence begins.
pub record DecimalWithin (piece : List ℕ) (d : Decimal) : Type 0 where
  pub behind : d.bytes < length piece
  pub numeral : IsDecimal (take d.bytes piece) d.negative d.digits d.places
  pub matches : IsFloat (take d.bytes piece)
  pub ends : begins_float (take (d.bytes + 1) piece) ≡ false
