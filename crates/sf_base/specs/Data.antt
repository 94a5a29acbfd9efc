-- Values of destinations.
use Rattle.std.specs.Prelude.{ℕ, ◌-◌, ◌%◌, ◌^◌, Bool, true, false, nat_eq, nat_lt, nat_le, if◌then◌else◌, List, find, ℤ, pos, neg_ℤ, ◌≤ℤ◌}
use Rattle.std.specs.Prelude.{◌<ℤ◌}
use Rattle.std.specs.Prelude.{Option, Some, None}
use Rattle.std.specs.Option.{option_map}
pub use Rattle.sf_base.specs.Kinds.{with_sign}
use Rattle.std.specs.Prelude.{from_bits}
use Rattle.std.specs.Float.Ieee.{Float, binary32, binary64}
use Rattle.sf_base.specs.declared.number.Number as number
use Rattle.sf_base.specs.declared.real.Real as real
use Rattle.sf_base.specs.declared.real.Real.TheVariants as reals
use Rattle.sf_base.specs.declared.values.Kind.{Kind}
use Rattle.sf_base.specs.declared.values.Kind.TheVariants.{I8, I16, I32, I64, U8, U16, U32, U64, Text, F32, F64}
use Rattle.sf_base.specs.declared.values.Shown.{Shown}
use Rattle.sf_base.specs.declared.values.Shown.TheVariants as shown
use Rattle.sf_base.specs.declared.values.Value.{Value}
use Rattle.sf_base.specs.declared.values.Value.TheVariants as value

-- what a destination was given: a number of its kind, bytes, or the pattern of a float (C11 F.2)
pub data Datum : Type 0 where
  Number : Kind → ℤ → Datum
  Bytes : List ℕ → Datum
  Real : real.Real → Datum

-- the kind of a float
abbrev pub kind_of_real : real.Real → Kind
kind_of_real (reals.F32 bits) = F32
kind_of_real (reals.F64 bits) = F64

-- the kind of a destination that was given it
abbrev pub kind_of : Datum → Kind
kind_of (Number kind n) = kind
kind_of (Bytes text) = Text
kind_of (Real r) = kind_of_real r

-- its number, if it is no text and no float
abbrev pub number_in : Datum → Option ℤ
number_in (Number kind n) = Some n
number_in (Bytes text) = None
number_in (Real r) = None

-- its float, if it is one of the format (C11 6.2.5p10, F.2)
abbrev pub f32_in : Datum → Option Float
f32_in (Real (reals.F32 bits)) = Some (from_bits binary32 bits)
f32_in _ = None

abbrev pub f64_in : Datum → Option Float
f64_in (Real (reals.F64 bits)) = Some (from_bits binary64 bits)
f64_in _ = None

-- ---- the numbers of a kind

-- n bits beside the sign, in two's complement (C11 6.2.6.2p2)
abbrev pub IsSigned : ℕ → ℤ → Type 0
IsSigned n z = (neg_ℤ (pos (2 ^ n)) ≤ℤ z) × (z <ℤ pos (2 ^ n))

-- n bits
abbrev pub IsUnsigned : ℕ → ℤ → Type 0
IsUnsigned n z = (pos 0 ≤ℤ z) × (z <ℤ pos (2 ^ n))

-- the kind holds the number
abbrev pub IsIn : Kind → ℤ → Type 0
IsIn I8 z = IsSigned 7 z
IsIn I16 z = IsSigned 15 z
IsIn I32 z = IsSigned 31 z
IsIn I64 z = IsSigned 63 z
IsIn U8 z = IsUnsigned 8 z
IsIn U16 z = IsUnsigned 16 z
IsIn U32 z = IsUnsigned 32 z
IsIn U64 z = IsUnsigned 64 z
IsIn Text z = ⊥
IsIn F32 z = ⊥
IsIn F64 z = ⊥

-- a signed number of n bits beside the sign: from -2 ^ n to 2 ^ n - 1 (C11 6.2.6.2p2)
abbrev pub signed_value : ℕ → Bool → ℕ → Option ℤ
signed_value n false m = if nat_lt m (2 ^ n) then Some (pos m) else None
signed_value n true m = if nat_le m (2 ^ n) then Some (neg_ℤ (pos m)) else None

-- an unsigned number of n bits; a minus negates it modulo 2 ^ n (C11 6.2.5p9, 7.22.1.4p5)
abbrev pub unsigned_value : ℕ → Bool → ℕ → Option ℤ
unsigned_value n false m = if nat_lt m (2 ^ n) then Some (pos m) else None
unsigned_value n true m = if nat_lt m (2 ^ n) then Some (pos ((2 ^ n - m) % 2 ^ n)) else None

-- the value of a sign (true: a minus) and a magnitude in a kind, if the kind holds it (C11 7.21.6.2p10)
abbrev pub value_of : Kind → Bool → ℕ → Option ℤ
value_of I8 = signed_value 7
value_of I16 = signed_value 15
value_of I32 = signed_value 31
value_of I64 = signed_value 63
value_of U8 = unsigned_value 8
value_of U16 = unsigned_value 16
value_of U32 = unsigned_value 32
value_of U64 = unsigned_value 64
value_of Text = λ negative m. None
value_of F32 = λ negative m. None
value_of F64 = λ negative m. None

-- a value without the Rust type that holds it
abbrev pub datum_of : Value → Datum
datum_of (value.I8 n) = Number I8 n
datum_of (value.I16 n) = Number I16 n
datum_of (value.I32 n) = Number I32 n
datum_of (value.I64 n) = Number I64 n
datum_of (value.U8 n) = Number U8 (pos n)
datum_of (value.U16 n) = Number U16 (pos n)
datum_of (value.U32 n) = Number U32 (pos n)
datum_of (value.U64 n) = Number U64 (pos n)
datum_of (value.Text t) = Bytes t.now
datum_of (value.F32 bits) = Real (reals.F32 bits)
datum_of (value.F64 bits) = Real (reals.F64 bits)

-- the same of a number by its sign and its magnitude
abbrev pub datum_of_number : number.Number → Datum
datum_of_number n = Number n.kind (with_sign n.negative n.magnitude)

abbrev pub datum_of_shown : Shown → Datum
datum_of_shown (shown.Number n) = datum_of_number n
datum_of_shown (shown.Text t) = Bytes t.now
datum_of_shown (shown.Real r) = Real r

abbrev pub is_number : Value → Bool
is_number (value.Text t) = false
is_number (value.F32 bits) = false
is_number (value.F64 bits) = false
is_number _ = true

-- a destination's slot, and what it was given
pub record Assigned : Type 0 where
  pub slot : ℕ
  pub datum : Datum

-- what a slot was given
abbrev pub datum_at : ℕ → List Assigned → Option Datum
datum_at slot values = option_map (λ a. a.datum) (find (λ a. nat_eq slot a.slot) values)
