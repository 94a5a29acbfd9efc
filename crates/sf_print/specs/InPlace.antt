-- What is printed of values in place, by the conversions that find them.
use Rattle.std.specs.Prelude.{◌≡◌, ℕ, List, [], ◌∷◌, Option, Some, None}
use Rattle.std.specs.List.{AllByRecursion, flat_map}
use Rattle.sf_base.specs.Data.{Datum}
use Rattle.sf_format.specs.declared.unit.PrintConv.{PrintConv}
use Rattle.sf_format.specs.declared.unit.Unit.{Unit as PrintUnit}
use Rattle.sf_format.specs.declared.unit.Unit.TheVariants as unit
use Rattle.sf_print.specs.Printed.{text_or_none, value_fault}

-- a literal is printed as it stands, a conversion as the text of the value that it finds
abbrev pub text_by : (PrintConv → Option Datum) → PrintUnit → List ℕ
text_by found (unit.Byte b) = b ∷ []
text_by found (unit.Conv c) = text_or_none c (found c)

-- the texts of the units, joined
abbrev pub printed_by : (PrintConv → Option Datum) → List PrintUnit → List ℕ
printed_by found units = flat_map (text_by found) units

-- there is a value, and nothing is wrong with it
abbrev pub Suits : PrintConv → Option Datum → Type 0
Suits c None = ⊥
Suits c (Some value) = value_fault c value ≡ None

-- each conversion finds a value that suits it
abbrev pub IsSuited : (PrintConv → Option Datum) → PrintUnit → Type 0
IsSuited found (unit.Byte b) = Unit {0}
IsSuited found (unit.Conv c) = Suits c (found c)

abbrev pub AreSuited : (PrintConv → Option Datum) → List PrintUnit → Type 0
AreSuited found units = AllByRecursion (IsSuited found) units
