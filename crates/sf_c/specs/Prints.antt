-- What is printed of C's values.
use Rattle.std.specs.Prelude.{◌≡◌, ◌<◌, ◌^◌, ◌⊎◌, ℕ, List, [], ◌∷◌, length, take, Ok, Err}
use Rattle.sf_base.specs.declared.real.Real.{Real as Pattern}
use Rattle.sf_base.specs.declared.real.Real.TheVariants.{F32, F64}
use Rattle.sf_base.specs.Data.{Datum, Number, Bytes, Real, IsIn}
use Rattle.sf_format.specs.declared.unit.Unit.{Unit as PrintUnit}
use Rattle.sf_print.specs.declared.fault.PrintFault.{PrintFault}
use Rattle.sf_print.specs.declared.fault.PrintFault.TheVariants as fault
use Rattle.sf_print.specs.Printed.{measured, printed}
use Rattle.sf_c.specs.declared.values.SfValue.{SfValue}
use Rattle.sf_c.specs.Formats.{IsPrintFormat}
use Rattle.sf_c.specs.Values.{Has}

-- the pattern of a float has the bits of its kind; all 64 bits of a cell are one of a double
abbrev pub IsPattern : Pattern → Type 0
IsPattern (F32 bits) = bits < 2 ^ 32
IsPattern (F64 bits) = Unit {0}

-- a value of its kind: a number that the kind holds, bytes, or the pattern of a float
abbrev pub IsOfKind : Datum → Type 0
IsOfKind (Number kind n) = IsIn kind n
IsOfKind (Bytes text) = Unit {0}
IsOfKind (Real real) = IsPattern real

-- the cell has this value, which is of its kind
pub record Means (texts : List ℕ) (datum : Datum) (cell : SfValue) : Type 0 where
  pub has : Has texts datum cell
  pub of_kind : IsOfKind datum

-- the cells have these values
abbrev pub AreData : List ℕ → List Datum → List SfValue → Type 0
AreData texts [] [] = Unit {0}
AreData texts (datum ∷ left) (cell ∷ cells) = Means texts datum cell × AreData texts left cells
AreData texts _ _ = ⊥

-- the text that the format prints of the values (C11 7.21.6.1): all of its bytes are counted, and the first ones are written
pub record IsPrintedBy (units : List PrintUnit) (values : List Datum) (output : List ℕ) (len : ℕ) : Type 0 where
  pub measured_is : measured units values ≡ Ok len
  pub front : take len output ≡ take (length output) (printed units values)

-- the bytes spell a format, and some cell has no value, or there are more than a format has slots
abbrev pub HasNoValue : ℕ → List ℕ → List SfValue → List ℕ → Type 0
HasNoValue profile format cells texts =
    ((units : List PrintUnit) × IsPrintFormat profile format units)
    × ((32 < length cells) ⊎ ((values : List Datum) → AreData texts values cells → ⊥))

-- why nothing was printed, as a number
abbrev pub why_number : PrintFault → ℕ
why_number fault.WrongCount = 1
why_number (fault.WrongKind at) = 2
why_number (fault.NotOneByte at) = 3
why_number fault.TooLong = 4
why_number (fault.Sink written) = 0

-- the value at fault; 0 for none
abbrev pub slot_at : PrintFault → ℕ
slot_at (fault.WrongKind at) = at
slot_at (fault.NotOneByte at) = at
slot_at _ = 0

-- the values are none that the format prints
pub record IsNotPrintedBy (units : List PrintUnit) (values : List Datum) (why slot : ℕ) : Type 0 where
  pub fault : PrintFault
  pub measured_is : measured units values ≡ Err fault
  pub why_is : why ≡ why_number fault
  pub slot_is : slot ≡ slot_at fault

-- the bytes spell a format, the cells have values, and this holds of both
abbrev pub OfBoth : ℕ → List ℕ → List SfValue → List ℕ → (List PrintUnit → List Datum → Type 0) → Type 0
OfBoth profile format cells texts holds =
    (units : List PrintUnit) × IsPrintFormat profile format units
    × ((values : List Datum) × AreData texts values cells × holds units values)

abbrev pub IsPrinted : ℕ → List ℕ → List SfValue → List ℕ → List ℕ → ℕ → Type 0
IsPrinted profile format cells texts output len =
    OfBoth profile format cells texts (λ units values. IsPrintedBy units values output len)

abbrev pub IsNotPrinted : ℕ → List ℕ → List SfValue → List ℕ → ℕ → ℕ → Type 0
IsNotPrinted profile format cells texts why slot =
    OfBoth profile format cells texts (λ units values. IsNotPrintedBy units values why slot)
