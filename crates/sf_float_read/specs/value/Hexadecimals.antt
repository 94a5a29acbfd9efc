-- A hexadecimal numeral, read from the left by computing.
use Rattle.std.specs.Prelude.{◌≡◌, ◌⊎◌, ℕ, suc, ◌+◌, ◌*◌, ◌^◌, ◌<◌, ◌≤◌, Bool, true, false, ◌==◌, ◌||◌, List, [], ◌∷◌, drop, slice_index}
use Rattle.std.specs.Prelude.{if◌then◌else◌}
use Rattle.std.specs.Char.{is_ascii_hexdigit, digit_value}
use Rattle.std.specs.Str.Parse.{digits_value}
use Rattle.sf_float.specs.Quotient.{IsQuotient}

-- m holds the first digits of a number, after which `cut` more stand, and `lost` says whether one of these isn't 0
pub record IsFront (value m cut : ℕ) (lost : Bool) : Type 0 where
  pub quotient : IsQuotient value (16 ^ cut) m lost
  pub few : m < 2 ^ 60
  pub long : 0 < cut → 2 ^ 56 ≤ m
  pub known : lost ≡ true → 0 < cut

-- digits, with a point among them: the number that they write, how many stand after the point, and what follows them
abbrev pub digits_read : ℕ → ℕ → Bool → List ℕ → ℕ × ℕ × List ℕ
digits_read value places after [] = (value, places, [])
digits_read value places after (b ∷ t) =
    if is_ascii_hexdigit b then digits_read (value * 16 + digit_value b) (if after then suc places else places) after t
    else (if b == 46 then digits_read value places true t else (value, places, b ∷ t))

-- the length of a sign
abbrev pub sign_len : List ℕ → ℕ
sign_len t = if slice_index t 0 == 45 || slice_index t 0 == 43 then 1 else 0

-- after the letter of an exponent: whether there is a minus, and the number
abbrev pub exponent_read : List ℕ → Bool × ℕ
exponent_read [] = (false, 0)
exponent_read (letter ∷ t) = (slice_index t 0 == 45, digits_value 10 (drop (sign_len t) t))

-- a number that was counted up to a bound: it is exact, or both reach the bound
pub record IsCapped (value counted : ℕ) : Type 0 where
  pub either : (counted ≡ value) ⊎ (2 ^ 100 ≤ value) × (2 ^ 100 ≤ counted)
  pub most : counted < 2 ^ 104
