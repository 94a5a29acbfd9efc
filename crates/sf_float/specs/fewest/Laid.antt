-- The text of a float: its shortest digits, laid out.
use Rattle.std.specs.Prelude.{ℕ, ◌+◌, ◌-◌, ◌*◌, ◌/◌, ◌^◌, Bool, false, ◌&&◌, List, ◌∷◌, ◌++◌, codes, max, nat_eq, nat_lt, nat_le}
use Rattle.std.specs.Prelude.{if◌then◌else◌}
use Rattle.std.specs.Float.{is_sign_negative}
use Rattle.std.specs.Float.Ieee.{Float, nan, inf, fin}
use Rattle.std.specs.Fmt.{sign_text}
use Rattle.sf_base.specs.declared.real.Real as real
use Rattle.sf_base.specs.declared.real.Real.TheVariants as reals
use Rattle.sf_float.specs.Texts.{fixed_digits, fixed_text, point_text, exponent_size}
use Rattle.sf_float.specs.Computed.{count_of}
use Rattle.sf_float.specs.fewest.Digits.{number_of, shortest}

-- how many digits stand before the point at most
abbrev pub whole_digits : real.Real → ℕ
whole_digits (reals.F32 bits) = 13
whole_digits (reals.F64 bits) = 16

-- how many zeros stand after the point at most
abbrev pub leading_zeros : real.Real → ℕ
leading_zeros (reals.F32 bits) = 5
leading_zeros (reals.F64 bits) = 4

-- 1200.0, 1.2 or 0.0012; the point stands before the digits after which `point` is 400
abbrev pub plain_text : ℕ → ℕ → ℕ → List ℕ
plain_text n last point =
    let decimals = max (400 - last) 1 in
    fixed_text false decimals (n * 10 ^ (last + decimals - 400)) (max (point - 400) 1)

-- 1.2e-7 or 1e22
abbrev pub raised_text : ℕ → ℕ → ℕ → List ℕ
raised_text n count point =
    let size = exponent_size (point - 1) in
    fixed_digits 1 (n / 10 ^ (count - 1)) ++ point_text false (count - 1) n
    ++ 101 ∷ (sign_text (nat_lt (point - 1) 400) ++ fixed_digits (count_of 0 size) size)

abbrev pub is_plain : real.Real → ℕ → Bool
is_plain r point = nat_le (400 - leading_zeros r) point && nat_le point (400 + whole_digits r)

abbrev pub laid_out : real.Real → ℕ → ℕ → List ℕ
laid_out r n last =
    let count = count_of 0 n in
    if is_plain r (count + last) then plain_text n last (count + last) else raised_text n count (count + last)

-- without a sign
abbrev pub size_text : real.Real → Float → List ℕ
size_text r nan = codes "nan"
size_text r (inf s) = codes "inf"
size_text r (fin s m e) = if nat_eq m 0 then codes "0.0" else laid_out r (shortest r).0 (shortest r).1

unfoldable pub shortest_text : real.Real → List ℕ
shortest_text r = sign_text (is_sign_negative (number_of r)) ++ size_text r (number_of r)
