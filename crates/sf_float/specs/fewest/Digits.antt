-- The shortest decimal digits that are read as a float of its kind, found by trial. A decimal is n * 10 ^ (last - 400).
use Rattle.std.specs.Prelude.{ℕ, zero, suc, ◌+◌, ◌-◌, ◌*◌, ◌/◌, ◌%◌, ◌^◌, Bool, ◌==◌, nat_lt, if◌then◌else◌, Option, Some, None, from_bits}
use Rattle.std.specs.Prelude.{to_bits}
use Rattle.std.specs.Float.{is_sign_negative}
use Rattle.std.specs.Float.Ieee.{Float, Format, nan, inf, fin, up, down, round, binary32, binary64}
use Rattle.sf_base.specs.declared.real.Real as real
use Rattle.sf_base.specs.declared.real.Real.TheVariants as reals
use Rattle.sf_float.specs.Scaled.{scaled}
use Rattle.sf_float.specs.Computed.{least_passing}

-- ---- the kinds

abbrev pub format_of : real.Real → Format
format_of (reals.F32 bits) = binary32
format_of (reals.F64 bits) = binary64

abbrev pub number_of : real.Real → Float
number_of (reals.F32 bits) = from_bits binary32 bits
number_of (reals.F64 bits) = from_bits binary64 bits

-- with so many digits after the first, the nearest decimal is always read as the float
abbrev pub most_decimals : real.Real → ℕ
most_decimals (reals.F32 bits) = 8
most_decimals (reals.F64 bits) = 16

-- ---- the decimals on both sides of a float whose last digit is that of 10 ^ (last - 400)

-- the size of x in such steps, cut to a whole number; 0 of what is not finite
abbrev pub cut : Float → ℕ → ℕ
cut nan last = 0
cut (inf s) last = 0
cut (fin s m e) last = m * up e * 10 ^ (400 - last) / (down e * 10 ^ (last - 400))

-- the nearest, of two the even one
abbrev pub near : Float → ℕ → ℕ
near x last = scaled x (400 - last) (last - 400)

-- that on the other side
abbrev pub other : Float → ℕ → ℕ
other x last = if near x last == cut x last then cut x last + 1 else cut x last

-- the power of ten of the first digit, plus 400
unfoldable pub first_power : Float → ℕ
first_power x = least_passing (λ p. nat_lt (cut x p) 10) 1000 0

-- ---- reading

-- the float of the kind that is nearest to a decimal with the sign of r
abbrev pub read_as : real.Real → ℕ → ℕ → Float
read_as r n last = round (format_of r) (is_sign_negative (number_of r)) (n * 10 ^ (last - 400)) (10 ^ (400 - last))

-- it is r
abbrev pub reads_back : real.Real → ℕ → ℕ → Bool
reads_back r n last = to_bits (format_of r) (read_as r n last) == to_bits (format_of r) (number_of r)

-- ---- the trial

-- of the two decimals on both sides that which reads back, the nearest first
abbrev pub tried : real.Real → ℕ → Option ℕ
tried r last = let x = number_of r in
    if reads_back r (near x last) last then Some (near x last)
    else (if reads_back r (other x last) last then Some (other x last) else None)

abbrev pub or_else : Option ℕ → ℕ → ℕ × ℕ → ℕ × ℕ
or_else (Some n) last rest = (n, last)
or_else None last rest = rest

-- with the last digit there, or at one of so many further places
unfoldable pub searched : real.Real → ℕ → ℕ → ℕ × ℕ
searched r zero last = (near (number_of r) last, last)
searched r (suc k) last = or_else (tried r last) last (searched r k (last - 1))

-- without zeros at the end, at most so many
unfoldable pub trimmed : ℕ → ℕ → ℕ → ℕ × ℕ
trimmed zero n last = (n, last)
trimmed (suc k) n last = if n % 10 == 0 then trimmed k (n / 10) (last + 1) else (n, last)

-- the shortest digits, and where the last stands
unfoldable pub shortest : real.Real → ℕ × ℕ
shortest r = let s = searched r (most_decimals r) (first_power (number_of r)) in trimmed 17 s.0 s.1
