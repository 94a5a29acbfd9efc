-- What a conversion stores of a matching sequence (C11 7.21.6.2p10, 7.22.1.3p3 to p5): the nearest number of the format, rounded once, as a
-- pattern.
use Rattle.std.specs.Prelude.{◌≡◌, ◌⊎◌, ℕ, ◌+◌, ◌*◌, ◌^◌, Bool, ◌==◌, List, [], ◌∷◌, ◌++◌, length, slice_index, if◌then◌else◌, Option, Some}
use Rattle.std.specs.Prelude.{None, to_bits}
use Rattle.std.proofs.Common.{inl, inr}
use Rattle.std.specs.Str.Parse.{digits_value}
use Rattle.std.specs.Float.{float_is_infinite}
use Rattle.std.specs.Float.Ieee.{Float, Format, nan, inf, round}
use Rattle.std.specs.Float.Parse.{parse_float}
use Rattle.sf_float_read.specs.declared.item.reached.Radix.TheVariants.{Ten, Sixteen}
use Rattle.sf_float_read.specs.item.Parts.{IsSign, IsExponent, IsNumeral, IsInfinity, IsNan}

-- a minus stands there
abbrev pub is_minus : List ℕ → Bool
is_minus sign = slice_index sign 0 == 45

-- by how many powers of two an exponent raises the number, and by how many it lowers it
abbrev pub raised_by : (t : List ℕ) → ((t ≡ []) ⊎ IsExponent Sixteen t) → ℕ
raised_by t (inl none) = 0
raised_by t (inr e) = if is_minus e.sign then 0 else digits_value 10 e.digits

abbrev pub lowered_by : (t : List ℕ) → ((t ≡ []) ⊎ IsExponent Sixteen t) → ℕ
lowered_by t (inl none) = 0
lowered_by t (inr e) = if is_minus e.sign then digits_value 10 e.digits else 0

-- x is the number of a hexadecimal numeral, each digit after the point being a sixteenth of the one before, nearest in the format
abbrev pub IsHexValue : Format → Bool → List ℕ → Float → Type 0
IsHexValue f negative t x = (n : IsNumeral Sixteen t)
    × (x ≡ round f negative (digits_value 16 (n.whole ++ n.fraction) * 2 ^ raised_by n.exponent n.raised)
    (2 ^ (4 * length n.fraction + lowered_by n.exponent n.raised)))

-- a finite number that rounds to an infinity is out of range, and nothing is stored
abbrev pub stored : Format → Float → Option ℕ
stored f x = if float_is_infinite x then None else Some (to_bits f x)

-- of a decimal numeral std's `parse` gives the nearest number; `inf` is an infinity, and `nan` the one NaN, whatever its sign and
-- characters
abbrev pub IsStoredSize : Format → Bool → List ℕ → List ℕ → Option ℕ → Type 0
IsStoredSize f negative item size result =
    (IsNumeral Ten size × ((x : Float) × (parse_float f item ≡ Some x) × (result ≡ stored f x)))
    ⊎ ((c : ℕ) × (numeral : List ℕ) × ((c ≡ 120) ⊎ (c ≡ 88)) × (size ≡ 48 ∷ c ∷ numeral)
    × ((x : Float) × IsHexValue f negative numeral x × (result ≡ stored f x)))
    ⊎ (IsInfinity size × (result ≡ Some (to_bits f (inf negative))))
    ⊎ (IsNan size × (result ≡ Some (to_bits f nan)))

abbrev pub IsStored : Format → List ℕ → Option ℕ → Type 0
IsStored f item result = (sign : List ℕ) × (size : List ℕ) × IsSign sign × (item ≡ sign ++ size)
    × IsStoredSize f (is_minus sign) item size result
