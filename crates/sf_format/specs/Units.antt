-- What holds of the units of each accepted print format.
use Rattle.std.specs.Prelude.{◌≡◌, ℕ, ◌<◌, ◌≤◌, Bool, true, false, List, length, map, Option, Some, None, IfSome}
use Prim.Native.Char.{code}
use Rattle.std.specs.List.{AllByRecursion, filter_map}
use Rattle.sf_base.specs.declared.values.Kind.{Kind}
use Rattle.sf_base.specs.declared.values.Kind.TheVariants as kind
use Rattle.sf_format.specs.declared.unit.PrintLetter.{PrintLetter}
use Rattle.sf_format.specs.declared.unit.PrintLetter.TheVariants.{One}
use Rattle.sf_format.specs.declared.letter.Values.{Values}
use Rattle.sf_format.specs.declared.letter.Values.TheVariants as values
use Rattle.sf_format.specs.Lists.{is_any_of}
use Rattle.sf_format.specs.PrintLetters.{print_row}
use Rattle.sf_format.specs.declared.unit.PrintConv.{PrintConv}
use Rattle.sf_format.specs.declared.unit.Unit.{Unit as PrintUnit}
use Rattle.sf_format.specs.declared.unit.Unit.TheVariants as unit
use Rattle.sf_format.specs.Slots.{Slotted, AreSlots, slots_from}

-- ---- letters

abbrev pub is_signed : Kind → Bool
is_signed kind.I8 = true
is_signed kind.I16 = true
is_signed kind.I32 = true
is_signed kind.I64 = true
is_signed _ = false

abbrev pub is_unsigned : Kind → Bool
is_unsigned kind.U8 = true
is_unsigned kind.U16 = true
is_unsigned kind.U32 = true
is_unsigned kind.U64 = true
is_unsigned _ = false

abbrev pub is_text : Kind → Bool
is_text kind.Text = true
is_text _ = false

abbrev pub is_double : Kind → Bool
is_double kind.F64 = true
is_double _ = false

abbrev pub is_float : Kind → Bool
is_float kind.F32 = true
is_float kind.F64 = true
is_float _ = false

-- such values have the kind
abbrev pub holds_kind : Values → Kind → Bool
holds_kind values.Signed = is_signed
holds_kind values.Unsigned = is_unsigned
holds_kind values.Text = is_text
holds_kind values.Double = is_double
holds_kind values.Float = is_float

-- the letter prints values of the kind
abbrev pub prints_kind : PrintLetter → Kind → Bool
prints_kind letter = holds_kind (print_row letter).prints

-- the letter has the flag
abbrev pub has_flag : PrintLetter → ℕ → Bool
has_flag letter flag = is_any_of (print_row letter).flags flag

-- c has no precision
abbrev pub HasPrecision : PrintLetter → Option ℕ → Type 0
HasPrecision One precision = precision ≡ None
HasPrecision _ precision = Unit {0}

-- ---- units

-- a flag that the letter doesn't have isn't set
pub record IsProperConv (c : PrintConv) : Type 0 where
  pub kind : prints_kind c.letter c.kind ≡ true
  pub plus : has_flag c.letter (code "+") ≡ false → c.plus ≡ false
  pub blank : has_flag c.letter (code " ") ≡ false → c.blank ≡ false
  pub alt : has_flag c.letter (code "#") ≡ false → c.alt ≡ false
  pub zero : has_flag c.letter (code "0") ≡ false → c.zero ≡ false
  pub width : c.width ≤ 65535
  pub precision : IfSome c.precision (λ p. p ≤ 255)
  pub one : HasPrecision c.letter c.precision

abbrev pub IsProperUnit : PrintUnit → Type 0
IsProperUnit (unit.Byte b) = b < 256
IsProperUnit (unit.Conv c) = IsProperConv c

abbrev pub AreProperUnits : List PrintUnit → Type 0
AreProperUnits us = AllByRecursion IsProperUnit us

-- ---- values

-- the slot of the value that a unit prints, and its kind
abbrev pub printed_of : PrintUnit → Option Slotted
printed_of (unit.Byte b) = None
printed_of (unit.Conv c) = Some (c.slot, c.kind)

-- the values, in the order of the units
abbrev pub values_of : List PrintUnit → List Slotted
values_of us = filter_map printed_of us

-- the values have the slots from 1 to their count in order
abbrev pub ArePrintedInOrder : List PrintUnit → Type 0
ArePrintedInOrder us = map (λ v. v.0) (values_of us) ≡ slots_from 1 (length (values_of us))

-- ---- what each accepted format has

pub record AreAccepted (us : List PrintUnit) : Type 0 where
  pub proper : AreProperUnits us
  pub short : length us ≤ 4096
  pub few : length (values_of us) ≤ 32
  pub slots : AreSlots (values_of us)
