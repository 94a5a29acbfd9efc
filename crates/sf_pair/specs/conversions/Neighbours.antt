-- What may stand first in a unit's text, and what an item would run on into.
use Rattle.std.specs.Prelude.{ℕ, Bool, true, false, ◌==◌, ◌&&◌, ◌||◌, not, if◌then◌else◌, nat_lt, length, Option, Some, None, is_some}
use Rattle.std.specs.Prelude.{is_none}
use Rattle.std.specs.Char.{is_digit}
use Rattle.sf_base.specs.Sets.{has_byte}
use Rattle.sf_base.specs.declared.values.Kind.TheVariants as kind
use Rattle.sf_format.specs.declared.unit.FloatStyle.TheVariants as style
use Rattle.sf_format.specs.declared.unit.PrintLetter.{PrintLetter}
use Rattle.sf_format.specs.declared.unit.PrintLetter.TheVariants as letter
use Rattle.sf_format.specs.declared.unit.PrintConv.{PrintConv}
use Rattle.sf_format.specs.declared.unit.Unit.{Unit as PrintUnit}
use Rattle.sf_format.specs.declared.unit.Unit.TheVariants as unit
use Rattle.sf_format.specs.declared.directive.Base.{Base}
use Rattle.sf_format.specs.declared.directive.Base.TheVariants.{Auto, AutoBin}
use Rattle.sf_format.specs.declared.directive.Lead.{Lead}
use Rattle.sf_format.specs.declared.directive.Numeral.{Numeral}
use Rattle.sf_format.specs.declared.directive.Shape.{Shape}
use Rattle.sf_format.specs.declared.directive.Shape.TheVariants as shape
use Rattle.sf_format.specs.declared.directive.Conversion.{Conversion}
use Rattle.sf_format.specs.declared.directive.Directive.{Directive}
use Rattle.sf_format.specs.declared.directive.Directive.TheVariants as directive
use Rattle.sf_format.specs.Leads.{is_strict_lead, is_strict}
use Rattle.sf_item.specs.Radices.{first_radix, prefix_radix}
use Rattle.sf_item.specs.Tests.{is_ink}
use Rattle.sf_print.specs.texts.Text.{base_of, pads_with_zeros}
use Rattle.sf_report.specs.Machine.{some_below}
use Rattle.sf_print.specs.texts.Visible.{least}
use Rattle.sf_pair.specs.conversions.Reals.{has_point}

-- a set of bytes is the test of its members
abbrev pub Bytes : Type 0
Bytes = ℕ → Bool

abbrev pub no_byte : Bytes
no_byte b = false

abbrev pub any_byte : Bytes
any_byte b = true

abbrev pub only : ℕ → Bytes
only a b = b == a

abbrev pub digits_in : ℕ → Bytes
digits_in base b = is_digit b base

abbrev pub or : Bytes → Bytes → Bytes
or s t b = s b || t b

-- some byte is in both
unfoldable pub meet : Bytes → Bytes → Bool
meet s t = some_below 256 (λ b. s b && t b)

-- ---- first bytes

-- a digit; of a signed number also `-`, and with the flag `+` a `+`, else with the flag blank a blank, in place of the digit
abbrev pub sign_or_digit : PrintConv → Bytes
sign_or_digit c = if c.plus then only 43 else (if c.blank then only 32 else digits_in 10)

abbrev pub number_first : PrintLetter → PrintConv → Bytes
number_first letter.Signed c = or (only 45) (sign_or_digit c)
number_first l c = digits_in (base_of l)

-- and a blank, where a width pads with blanks
abbrev pub integer_first : PrintConv → Bytes
integer_first c = if nat_lt 0 c.width && not (pads_with_zeros c) then or (only 32) (number_first c.letter c) else number_first c.letter c

-- of a float as of a signed number; its flag `0` counts whatever the precision
abbrev pub float_digit : PrintConv → Bytes
float_digit c = or (only 45) (sign_or_digit c)

abbrev pub float_first : PrintConv → Bytes
float_first c = if nat_lt 0 c.width && not (c.zero && not c.minus) then or (only 32) (float_digit c) else float_digit c

abbrev pub text_first : PrintConv → Shape → Bytes
text_first c (shape.Text lead) = if nat_lt 0 c.width then or (only 32) is_ink else is_ink
text_first c (shape.Set members) = has_byte members
text_first c shape.Chars = any_byte
text_first c _ = no_byte

abbrev pub one_first : Shape → Bytes
one_first shape.Chars = any_byte
one_first _ = no_byte

-- a text is read by the next directive's shape
abbrev pub first_by_letter : PrintLetter → PrintConv → Shape → Bytes
first_by_letter letter.Text c read = text_first c read
first_by_letter letter.One c read = one_first read
first_by_letter (letter.Float kind upper) c read = float_first c
first_by_letter _ c read = integer_first c

-- ---- first bytes in a column

abbrev pub is_float : PrintLetter → Bool
is_float (letter.Float kind upper) = true
is_float _ = false

-- zeros fill the width: the flag `0` counts, of a float whatever the precision
abbrev pub fills_with_zeros : PrintConv → Bool
fills_with_zeros c = c.zero && not c.minus && (is_float c.letter || is_none c.precision)

-- blanks may fill it in front; a column with `!` holds none
abbrev pub fills_with_blanks : PrintConv → Shape → Bool
fills_with_blanks c read = nat_lt 0 c.width && not c.minus && not (fills_with_zeros c) && not (is_strict read)

-- a text has no white space at its ends
abbrev pub inked_first : Shape → Bytes
inked_first (shape.Text lead) b = is_ink b
inked_first (shape.Set members) b = has_byte members b && is_ink b
inked_first _ b = false

-- what may stand first after those blanks
abbrev pub bare_first : PrintLetter → PrintConv → Shape → Bytes
bare_first letter.Text c read = inked_first read
bare_first letter.One c read = no_byte
bare_first (letter.Float kind upper) c read = float_digit c
bare_first l c read = number_first l c

-- a column takes a number, or a text that is read by `s` or `[`
abbrev pub suits_column : PrintLetter → Shape → Bool
suits_column letter.Text (shape.Text lead) = true
suits_column letter.Text (shape.Set members) = true
suits_column letter.Text read = false
suits_column letter.One read = false
suits_column l read = true

abbrev pub column_first : PrintConv → Shape → Bytes
column_first c read =
    if suits_column c.letter read && fills_with_blanks c read then or (only 32) (bare_first c.letter c read) else bare_first c.letter c read

-- ---- what reads a unit

-- it reads nothing
abbrev pub no_conversion : Conversion
no_conversion = record { shape = shape.Count; kind = kind.Text; width = None; slot = None; optional = false; opens = None; column = false }

-- the next directive, where that is an assigned conversion
abbrev pub reads : Option Directive → Conversion
reads (Some (directive.Conv s)) = if is_some s.slot then s else no_conversion
reads _ = no_conversion

-- the bytes that may stand first in the conversion's text, where it is read by that one
abbrev pub first_read : PrintConv → Conversion → Bytes
first_read c read = if read.column then column_first c read.shape else first_by_letter c.letter c read.shape

-- the bytes that may stand first in the unit's text
abbrev pub first_by : PrintUnit → Conversion → Bytes
first_by (unit.Byte b) read = only b
first_by (unit.Conv c) read = first_read c read

abbrev pub first_of : PrintUnit → Option Directive → Bytes
first_of u next = first_by u (reads next)

-- ---- stop sets

-- the letters of the prefixes that may stand there
abbrev pub prefix_letters : Numeral → Bytes
prefix_letters numeral b = is_some (prefix_radix numeral b)

-- the radix comes of the first digits
abbrev pub is_auto_base : Base → Bool
is_auto_base Auto = true
is_auto_base AutoBin = true
is_auto_base _ = false

-- an integer goes on with digits; and with the letter of a prefix where its text may be a 0 alone: under `i`, and where the least text is
-- one byte
abbrev pub integer_stops : Numeral → Bool → Bytes
integer_stops numeral lone b = ((lone || is_auto_base numeral.base) && prefix_letters numeral b) || is_digit b (first_radix numeral)

abbrev pub is_prefix_letter : Bytes
is_prefix_letter = or (only 120) (only 88)

-- after an exponent a digit; after a fraction also the letter of an exponent; after whole digits also a point, and the letter of a prefix,
-- since they may be a 0 alone
abbrev pub exponent_stops : Bytes
exponent_stops = digits_in 10

abbrev pub fraction_stops : Bytes
fraction_stops = or exponent_stops (or (only 101) (only 69))

abbrev pub whole_stops : Bytes
whole_stops = or fraction_stops (or (only 46) is_prefix_letter)

-- a float goes on by what its text may end with
abbrev pub float_stops : PrintLetter → PrintConv → Bytes
float_stops (letter.Float style.Exponent upper) c = exponent_stops
float_stops (letter.Float style.Hexadecimal upper) c = exponent_stops
float_stops (letter.Float style.Fixed upper) c = if has_point c then fraction_stops else whole_stops
float_stops (letter.Float style.General upper) c = whole_stops
float_stops _ c = no_byte

-- with `!` no letter of a prefix
abbrev pub under_mark : Lead → Bytes → Bytes
under_mark lead stops b = if is_strict_lead lead && is_prefix_letter b then false else stops b

-- a byte of a float's stop set that would go on with none of its texts: with `#` a point and the letter of a prefix, and that letter where
-- zeros fill a width
abbrev pub is_spare : Shape → PrintConv → Bytes
is_spare (shape.Float lead) c b = (c.alt && (b == 46 || is_prefix_letter b)) || (c.zero && nat_lt 0 c.width && is_prefix_letter b)
is_spare _ c b = false

-- the bytes that an item of the shape would take after the conversion's text
abbrev pub stop_set : Shape → PrintConv → Bytes
stop_set (shape.Int numeral) c = integer_stops numeral (length (least c) == 1)
stop_set (shape.Text lead) c = is_ink
stop_set (shape.Set members) c = has_byte members
stop_set (shape.Float lead) c = under_mark lead (float_stops c.letter c)
stop_set _ c = no_byte
