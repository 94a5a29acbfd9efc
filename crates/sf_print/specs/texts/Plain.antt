-- Conversions whose text is a minus and digits alone, and values that are printed as they are.
use Rattle.std.specs.Prelude.{Bool, true, false, ◌==◌, ◌&&◌, not, is_none}
pub use Rattle.sf_print.specs.digits.Decimals.{minus}
use Rattle.sf_base.specs.Data.{Datum}
use Rattle.sf_base.specs.Data.Datum.{Number, Bytes}
use Rattle.sf_format.specs.declared.unit.PrintLetter.{PrintLetter}
use Rattle.sf_format.specs.declared.unit.PrintLetter.TheVariants as letter
use Rattle.sf_format.specs.declared.unit.PrintConv.{PrintConv}

abbrev pub is_decimal : PrintLetter → Bool
is_decimal letter.Signed = true
is_decimal letter.Unsigned = true
is_decimal _ = false

-- no width, no precision, no flag but `-`, `0` and `#`, which then do nothing
abbrev pub is_plain : PrintConv → Bool
is_plain c = is_decimal c.letter && (c.width == 0) && not c.plus && not c.blank && is_none c.precision

-- no precision, no flag but `-` and `0`: a number is a minus and its digits, padded to the width
abbrev pub is_field : PrintConv → Bool
is_field c = not c.plus && not c.blank && not c.alt && is_none c.precision

-- a number whose text is a minus and digits alone
abbrev pub is_plain_number : PrintConv → Datum → Bool
is_plain_number c (Number kind z) = is_plain c
is_plain_number c _ = false

-- a text that no width pads and no precision cuts
abbrev pub is_plain_text : PrintConv → Datum → Bool
is_plain_text c (Bytes bytes) = (c.width == 0) && is_none c.precision
is_plain_text c _ = false
