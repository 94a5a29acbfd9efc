-- What a row is made of.
use Rattle.std.specs.Prelude.{◌≡◌, ◌⊎◌, ℕ, ◌-◌, true, nat_eq, None, to_bits, T, if◌then◌else◌, List, length, map, slice_get}
use Rattle.std.specs.Prelude.{Option, Some, IfSome}
use Rattle.std.specs.List.{AllByRecursion, filter_map}
use Rattle.std.specs.Option.{option_map}
use Rattle.sf_base.specs.Bytes.{AreBytes}
use Rattle.std.specs.Float.Ieee.{Float, fits, binary32, binary64}
use Rattle.sf_base.specs.declared.real.Real as real
use Rattle.sf_base.specs.declared.real.Real.TheVariants as reals
use Rattle.sf_base.specs.declared.values.Kind.{Kind}
use Rattle.sf_base.specs.Data.{Datum, Number, Bytes, Real, Assigned, IsIn, datum_at}
pub use Rattle.sf_base.specs.Data.{kind_of}
use Rattle.sf_format.specs.declared.directive.Directive.{Directive}
use Rattle.sf_format.specs.Proper.{destinations_of, kind_at, may_miss}
use Rattle.sf_format.specs.Slots.{slots_from}

-- what stands at a slot of a list whose first place is slot 1
abbrev pub at_slot : {A : Type 0} → ℕ → List A → Option A
at_slot slot xs = if nat_eq slot 0 then None else slice_get xs (slot - 1)

-- the pattern of a float; each NaN has the one of the quiet NaN without a sign
abbrev pub IsPattern : real.Real → Type 0
IsPattern (reals.F32 bits) = (x : Float) × T (fits binary32 x) × (bits ≡ to_bits binary32 x)
IsPattern (reals.F64 bits) = (x : Float) × T (fits binary64 x) × (bits ≡ to_bits binary64 x)

-- of floats, a pattern
abbrev pub IsReadable : Datum → Type 0
IsReadable (Number kind n) = Unit {0}
IsReadable (Bytes text) = Unit {0}
IsReadable (Real r) = IsPattern r

-- each slot of these kinds was given something of its kind, and no other slot was given anything; floats are patterns
abbrev pub AreGiven : List Kind → List Assigned → Type 0
AreGiven kinds values =
    (slot : ℕ) → (option_map kind_of (datum_at slot values) ≡ at_slot slot kinds) × IfSome (datum_at slot values) IsReadable

-- what the slots from 1 to n were given
abbrev pub given_to : ℕ → List Assigned → List (Option Datum)
given_to n values = map (λ slot. datum_at slot values) (slots_from 1 n)

-- the data, slot by slot, are what the slots from 1 to n were given
abbrev pub AreRowOf : ℕ → List Datum → List Assigned → Type 0
AreRowOf n row values = map Some row ≡ given_to n values

-- ---- the row of a format

-- a number that its kind holds, bytes, or a float
abbrev pub IsValue : Datum → Type 0
IsValue (Number kind n) = IsIn kind n
IsValue (Bytes text) = AreBytes text
IsValue (Real r) = IsPattern r

-- the kinds of the destinations, from slot 1 on
abbrev pub kinds_of : List Directive → List Kind
kinds_of ds = filter_map (λ slot. kind_at slot ds) (slots_from 1 (length (destinations_of ds)))

-- a slot was given something of its kind; or nothing, where it may be missing
abbrev pub Suits : List Directive → ℕ → Option Datum → Type 0
Suits ds slot given = (option_map kind_of given ≡ kind_at slot ds) ⊎ (may_miss slot ds ≡ true) × (given ≡ None)

-- each destination of the directives was given something of its kind, or is missing; no other slot was given anything,
-- and all that was given are values
pub record FillsSlots (ds : List Directive) (values : List Assigned) : Type 0 where
  pub each : (slot : ℕ) → Suits ds slot (datum_at slot values)
  pub are_values : AllByRecursion (λ a. IsValue a.datum) values

-- what the destinations of the directives were given, in the order of their slots, where none is missing: values of
-- their kinds, and nothing else
pub record HasRow (ds : List Directive) (values : List Assigned) : Type 0 where
  pub row : List Datum
  pub is_row : AreRowOf (length (destinations_of ds)) row values
  pub kinds : map kind_of row ≡ kinds_of ds
  pub are_values : AllByRecursion IsValue row
  pub given : AreGiven (kinds_of ds) values
