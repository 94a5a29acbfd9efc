-- The text of `%a` (C11 7.21.6.1p8) without its `0x`, after which the zeros of the flag `0` stand.
use Rattle.std.specs.Prelude.{◌≡◌, ℕ, zero, suc, ◌+◌, ◌-◌, ◌*◌, ◌/◌, ◌%◌, ◌^◌, ◌<◌, ◌≤◌, Bool, false, ◌||◌, List, [], ◌∷◌, ◌++◌, nat_lt}
use Rattle.std.specs.Prelude.{if◌then◌else◌, Option, Some, None}
use Rattle.std.specs.Float.Ieee.{Float}
use Rattle.std.specs.Float.Ieee.Exact.{HasValue}
use Rattle.std.specs.Float.Ieee.Nearest.{closest}
use Rattle.sf_float.specs.Texts.{fixed_digits, IsCount}
use Rattle.sf_float.specs.General.{IsShortened}

-- a hexadecimal digit, in lower case
abbrev pub hex_digit : ℕ → ℕ
hex_digit d = if nat_lt d 10 then 48 + d else 87 + d

-- the last hexadecimal digits of a number, so many
abbrev pub hex_digits : ℕ → ℕ → List ℕ
hex_digits zero n = []
hex_digits (suc k) n = hex_digits k (n / 16) ++ hex_digit (n % 16) ∷ []

-- the size of x is m / 2 ^ 52 * 2 ^ (power - 1022): the digit before the point is 1, or 0 below the least normal double (ours: p8 leaves
-- that open)
pub record IsBinary (x : Float) (m power : ℕ) : Type 0 where
  pub negative : Bool
  pub value : HasValue x negative (m * 2 ^ power) (2 ^ 1074)
  pub most : m < 2 ^ 53
  pub few : power < 2046
  pub normal : 0 < power → 2 ^ 52 ≤ m

-- the exponent of 0 is 0
abbrev pub binary_power : ℕ → ℕ → ℕ
binary_power m power = if nat_lt 0 m then power else 1022

-- p, a sign and the exponent in decimal, without needless zeros; 1022 was added to it
abbrev pub IsBinaryExponent : ℕ → List ℕ → Type 0
IsBinaryExponent power t = let size = (power - 1022) + (1022 - power) in
    (count : ℕ) × IsCount 0 size count × (t ≡ 112 ∷ (if nat_lt power 1022 then 45 else 43) ∷ fixed_digits count size)

-- a point and the digits after it, if there are any, or `#` asks for it
abbrev pub hex_point : Bool → ℕ → ℕ → List ℕ
hex_point alt decimals n = if nat_lt 0 decimals || alt then 46 ∷ hex_digits decimals n else []

-- one digit, and so many after the point
abbrev pub hex_text : Bool → ℕ → ℕ → List ℕ
hex_text alt decimals n = hex_digits 1 (n / 16 ^ decimals) ++ hex_point alt decimals n

-- with a precision m / 2 ^ 52 is rounded to so many digits after the point, a tie to the even one; without, all digits stand that are
-- needed
abbrev pub IsHexNumeral : Bool → Option ℕ → ℕ → List ℕ → Type 0
IsHexNumeral alt None m t = (kept : ℕ) × (n : ℕ) × IsShortened 16 false 13 m kept n × (t ≡ hex_text alt kept n)
IsHexNumeral alt (Some decimals) m t = t ≡ hex_text alt decimals (closest (m * 16 ^ decimals) (2 ^ 52))

abbrev pub IsHexadecimalText : Bool → Option ℕ → Float → List ℕ → Type 0
IsHexadecimalText alt precision x t = (m : ℕ) × (power : ℕ) × IsBinary x m power
    × ((numeral : List ℕ) × (exponent : List ℕ) × IsHexNumeral alt precision m numeral × IsBinaryExponent (binary_power m power) exponent
    × (t ≡ numeral ++ exponent))
