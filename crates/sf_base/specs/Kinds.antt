-- The signs and the magnitudes of the numbers of a kind.
use Rattle.std.specs.Prelude.{ℕ, ◌^◌, Bool, true, false, ◌&&◌, nat_lt, nat_le, ℤ, pos, neg_ℤ, Option, Some, None, ◌-◌}
use Rattle.sf_base.specs.declared.values.Kind.{Kind}
use Rattle.sf_base.specs.declared.values.Kind.TheVariants.{I8, I16, I32, I64, U8, U16, U32, U64, Text, F32, F64}

-- the number of a sign (true: a minus) and a magnitude
abbrev pub with_sign : Bool → ℕ → ℤ
with_sign true m = neg_ℤ (pos m)
with_sign false m = pos m

-- a sign (true: a minus, which only a number below 0 has) and the magnitude of a number of n bits beside the sign (C11 6.2.6.2p2)
abbrev pub is_signed : ℕ → Bool → ℕ → Bool
is_signed n false m = nat_lt m (2 ^ n)
is_signed n true m = nat_lt 0 m && nat_le m (2 ^ n)

-- the same of an unsigned number of n bits
abbrev pub is_unsigned : ℕ → Bool → ℕ → Bool
is_unsigned n false m = nat_lt m (2 ^ n)
is_unsigned n true m = false

-- the kind holds the number with this sign and magnitude
abbrev pub is_held : Kind → Bool → ℕ → Bool
is_held I8 = is_signed 7
is_held I16 = is_signed 15
is_held I32 = is_signed 31
is_held I64 = is_signed 63
is_held U8 = is_unsigned 8
is_held U16 = is_unsigned 16
is_held U32 = is_unsigned 32
is_held U64 = is_unsigned 64
is_held Text = λ negative m. false
is_held F32 = λ negative m. false
is_held F64 = λ negative m. false

-- whether the numbers of the kind have a sign, and the greatest of them
abbrev pub bounds_of : Kind → Option (Bool × ℕ)
bounds_of I8 = Some (true, 2 ^ 7 - 1)
bounds_of I16 = Some (true, 2 ^ 15 - 1)
bounds_of I32 = Some (true, 2 ^ 31 - 1)
bounds_of I64 = Some (true, 2 ^ 63 - 1)
bounds_of U8 = Some (false, 2 ^ 8 - 1)
bounds_of U16 = Some (false, 2 ^ 16 - 1)
bounds_of U32 = Some (false, 2 ^ 32 - 1)
bounds_of U64 = Some (false, 2 ^ 64 - 1)
bounds_of Text = None
bounds_of F32 = None
bounds_of F64 = None
