-- The digits that are printed of a float (C11 7.21.6.1p8).
use Rattle.std.specs.Prelude.{ℕ, zero, suc, ◌+◌, ◌-◌, ◌/◌, ◌%◌, ◌^◌, ◌<◌, ◌≤◌, Bool, false, ◌||◌, List, [], ◌∷◌, ◌++◌, length, nat_lt}
use Rattle.std.specs.Prelude.{if◌then◌else◌}
use Rattle.std.specs.Float.Numeral.{Parts, text_of}

-- the last digits of a number, so many, with zeros before it where it has fewer
abbrev pub fixed_digits : ℕ → ℕ → List ℕ
fixed_digits zero n = []
fixed_digits (suc k) n = fixed_digits k (n / 10) ++ (48 + n % 10) ∷ []

-- the digits of an exponent below 1000, at least two
abbrev pub exponent_digits : ℕ → List ℕ
exponent_digits e = if nat_lt e 100 then fixed_digits 2 e else fixed_digits 3 e

-- how far the power of ten of the first digit, to which 400 was added, is from that of 1
abbrev pub exponent_size : ℕ → ℕ
exponent_size power = (power - 400) + (400 - power)

-- the parts of a number in the style d.ddde+dd, without their length; n has `decimals` + 1 digits, and `#` keeps a point with no digit
-- after it
abbrev pub scientific_parts : Bool → ℕ → ℕ → ℕ → ℕ → Parts
scientific_parts alt decimals n power len = record {
  whole = fixed_digits 1 (n / 10 ^ decimals);
  point = nat_lt 0 decimals || alt;
  fraction = fixed_digits decimals n;
  exponent_negative = nat_lt power 400;
  exponent = exponent_digits (exponent_size power);
  len = len;
}

-- with it
abbrev pub scientific : Bool → ℕ → ℕ → ℕ → Parts
scientific alt decimals n power = scientific_parts alt decimals n power (length (text_of (scientific_parts alt decimals n power 0)))

-- the parts of a number in the style ddd.ddd; n is the number times 10 ^ decimals, and `count` is its number of digits
abbrev pub fixed_parts : Bool → ℕ → ℕ → ℕ → ℕ → Parts
fixed_parts alt decimals n count len = record {
  whole = fixed_digits count (n / 10 ^ decimals);
  point = nat_lt 0 decimals || alt;
  fraction = fixed_digits decimals n;
  exponent_negative = false;
  exponent = [];
  len = len;
}

-- a point and the digits after it, if there are any, or `#` asks for it
abbrev pub point_text : Bool → ℕ → ℕ → List ℕ
point_text alt decimals n = if nat_lt 0 decimals || alt then 46 ∷ fixed_digits decimals n else []

-- e, a sign, and the exponent
abbrev pub exponent_text : ℕ → List ℕ
exponent_text power = 101 ∷ (if nat_lt power 400 then 45 else 43) ∷ exponent_digits (exponent_size power)

-- the text in the style ddd.ddd of n / 10 ^ decimals, with `count` digits before the point
abbrev pub fixed_text : Bool → ℕ → ℕ → ℕ → List ℕ
fixed_text alt decimals n count = fixed_digits count (n / 10 ^ decimals) ++ point_text alt decimals n

-- n / 10 ^ decimals has so many digits before the point: one at least, and no needless zero
pub record IsCount (decimals n count : ℕ) : Type 0 where
  pub some : 0 < count
  pub fits : n < 10 ^ (count + decimals)
  pub least : 1 < count → 10 ^ (count - 1 + decimals) ≤ n
