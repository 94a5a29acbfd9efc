-- Doubles that a pair carries over whatever their value.
use Rattle.std.specs.Prelude.{ℕ, ◌≡◌, ◌<◌, ◌≤◌, ◌⊎◌, ◌^◌, true, List, [], ◌∷◌, length, Option, Some, unwrap_or, from_bits}
use Rattle.std.specs.Float.{float_is_finite}
use Rattle.std.specs.Float.Ieee.{binary64}
use Rattle.sf_base.specs.Data.{Datum, Real}
use Rattle.sf_base.specs.declared.real.Real.TheVariants as reals
use Rattle.sf_base.specs.declared.values.Kind.TheVariants as kind
use Rattle.sf_format.specs.declared.unit.FloatStyle.{FloatStyle}
use Rattle.sf_format.specs.declared.unit.FloatStyle.TheVariants as style
use Rattle.sf_format.specs.declared.unit.PrintConv.{PrintConv}
use Rattle.sf_format.specs.declared.unit.Unit.{Unit as PrintUnit}
use Rattle.sf_format.specs.declared.directive.Conversion.{Conversion}
use Rattle.sf_format.specs.declared.directive.Directive.{Directive}
use Rattle.sf_format.specs.Units.{AreAccepted, values_of}
use Rattle.sf_print.specs.Printed.{value_at}
use Rattle.sf_float_read.specs.value.Laws.{IsLong}
use Rattle.sf_pair.specs.Groups.{IsAligned, width_of}
use Rattle.sf_pair.specs.conversions.Widths.{written_style, longest_float}
use Rattle.sf_pair.specs.Fits.{FitsAt, Fit, conversions, assigned_conversions}

-- 17 significant digits or more, or no fewer hexadecimal digits than a double has
abbrev pub WritesEnough : FloatStyle → Option ℕ → Type 0
WritesEnough style.Fixed precision = ⊥
WritesEnough style.Exponent precision = 16 ≤ unwrap_or precision 6
WritesEnough style.General precision = 17 ≤ unwrap_or precision 6
WritesEnough style.Hexadecimal precision = IsLong precision

-- the one prints a double with so many digits, and the other has room for the longest of these texts
pub record CarriesDoubles (c : PrintConv) (s : Conversion) : Type 0 where
  pub double : c.kind ≡ kind.F64
  pub digits : WritesEnough (written_style c.letter) c.precision
  pub room : longest_float c ≤ width_of s

-- the value is a finite double, 0 and those of either sign among them
abbrev pub IsFiniteDouble : Datum → Type 0
IsFiniteDouble (Real (reals.F64 bits)) = (bits < 2 ^ 64) × (float_is_finite (from_bits binary64 bits) ≡ true)
IsFiniteDouble _ = ⊥

-- a value that fits, or a finite double where each is carried over
abbrev pub IsCarried : List Datum → PrintConv → Conversion → Type 0
IsCarried values c s = FitsAt values c s
    ⊎ CarriesDoubles c s × ((v : Datum) × (value_at values c.slot ≡ Some v) × IsFiniteDouble v)

abbrev pub AllCarried : List Datum → List PrintConv → List Conversion → Type 0
AllCarried values [] [] = Unit {0}
AllCarried values (c ∷ cs) (s ∷ ss) = IsCarried values c s × AllCarried values cs ss
AllCarried values _ _ = ⊥

-- under aligned formats, such values fit, as many as there are slots
abbrev pub FiniteDoublesFit : Type 0
FiniteDoublesFit = (us : List PrintUnit) (ds : List Directive) → AreAccepted us → IsAligned us ds → (values : List Datum)
    → length values ≡ length (values_of us) → AllCarried values (conversions us) (assigned_conversions ds) → Fit us ds values
