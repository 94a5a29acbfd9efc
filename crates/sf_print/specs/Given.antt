-- The printed text of a format and values of which some may be missing, and what is refused.
use Rattle.std.specs.Prelude.{ℕ, ◌-◌, ◌==◌, not, if◌then◌else◌, List, [], ◌∷◌, length, slice_get, fold, Option, Some, None, Result, Err}
use Rattle.std.specs.List.{flat_map}
use Rattle.sf_base.specs.Data.{Datum}
use Rattle.sf_format.specs.declared.unit.PrintConv.{PrintConv}
use Rattle.sf_format.specs.declared.unit.Unit.{Unit as PrintUnit}
use Rattle.sf_format.specs.declared.unit.Unit.TheVariants as unit
use Rattle.sf_format.specs.Units.{values_of}
use Rattle.sf_print.specs.declared.fault.PrintFault.{PrintFault}
use Rattle.sf_print.specs.declared.fault.PrintFault.TheVariants as fault
use Rattle.sf_print.specs.Printed.{fault_or_none, length_or_fault, lower}
use Rattle.sf_print.specs.texts.Text.{blanks, value_text}

-- what the slot has: a value, or none; slots count from 1
abbrev pub given_at : List (Option Datum) → ℕ → Option (Option Datum)
given_at given slot = if slot == 0 then None else slice_get given (slot - 1)

-- a missing value is blanks, as many as the width, whatever flags, precision and letter
abbrev pub given_text : PrintConv → Option Datum → List ℕ
given_text c None = blanks c.width
given_text c (Some value) = value_text c value

abbrev pub given_or_none : PrintConv → Option (Option Datum) → List ℕ
given_or_none c None = []
given_or_none c (Some given) = given_text c given

abbrev pub given_unit : List (Option Datum) → PrintUnit → List ℕ
given_unit given (unit.Byte b) = b ∷ []
given_unit given (unit.Conv c) = given_or_none c (given_at given c.slot)

-- the texts of the units, joined
abbrev pub given_printed : List PrintUnit → List (Option Datum) → List ℕ
given_printed units given = flat_map (given_unit given) units

-- nothing is wrong with a missing value
abbrev pub fault_of_given : PrintConv → Option (Option Datum) → Option PrintFault
fault_of_given c None = None
fault_of_given c (Some given) = fault_or_none c given

abbrev pub given_fault : List (Option Datum) → PrintUnit → Option PrintFault
given_fault given (unit.Byte b) = None
given_fault given (unit.Conv c) = fault_of_given c (given_at given c.slot)

abbrev pub lowest_given_fault : List PrintUnit → List (Option Datum) → Option PrintFault
lowest_given_fault units given = fold (λ f u. lower f (given_fault given u)) None units

-- the length of the printed text, or what is refused: the number of values, then the lowest slot at fault, then the length
abbrev pub given_measured : List PrintUnit → List (Option Datum) → Result ℕ PrintFault
given_measured units given = if not (length given == length (values_of units)) then Err fault.WrongCount else length_or_fault
    (lowest_given_fault units given) (length (given_printed units given))
