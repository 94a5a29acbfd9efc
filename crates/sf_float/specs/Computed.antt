-- The text of a float by a conversion, computed. What specs/Printed says of a text, this text meets, and no other.
use Rattle.std.specs.Prelude.{◌≡◌, ℕ, zero, suc, ◌+◌, ◌-◌, ◌*◌, ◌/◌, ◌%◌, ◌^◌, Bool, true, false, ◌&&◌, List, ◌∷◌, ◌++◌, max, nat_eq}
use Rattle.std.specs.Prelude.{nat_lt, nat_le, if◌then◌else◌, codes, Option, Some, None, unwrap_or}
use Rattle.std.specs.Float.Ieee.{Float, nan, inf, fin, up, down}
use Rattle.std.specs.Float.Ieee.Nearest.{closest}
use Rattle.ryu.specs.Plain.{text_with}
use Rattle.sf_float.specs.declared.text.Style.{Style}
use Rattle.sf_float.specs.declared.text.Style.TheVariants.{Fixed, Exponent, General, Hexadecimal}
use Rattle.sf_float.specs.declared.text.FloatConv.{FloatConv}
use Rattle.sf_float.specs.Scaled.{scaled, scaled_at}
use Rattle.sf_float.specs.Texts.{fixed_digits, fixed_text, scientific}
use Rattle.sf_float.specs.Hexadecimal.{binary_power, hex_text}
use Rattle.sf_float.specs.Printed.{IsFloatText, in_case, field_text}

-- ---- the least number that passes a test

-- from i on, of so many more; `passes` says whether i does
abbrev pub first_passing : (ℕ → Bool) → ℕ → Bool → ℕ → ℕ
first_passing test zero passes i = i
first_passing test (suc k) true i = i
first_passing test (suc k) false i = first_passing test k (test (suc i)) (suc i)

abbrev pub least_passing : (ℕ → Bool) → ℕ → ℕ → ℕ
least_passing test k i = first_passing test k (test i) i

-- ---- digits

-- how many digits n / 10 ^ decimals has before the point, one at least
unfoldable pub count_of : ℕ → ℕ → ℕ
count_of decimals n = least_passing (λ c. nat_lt n (10 ^ (c + decimals))) n 1

-- how many digits of n / base ^ decimals after the point are needed
unfoldable pub needed_of : ℕ → ℕ → ℕ → ℕ
needed_of base decimals n = least_passing (λ k. nat_eq (n % base ^ (decimals - k)) 0) decimals 0

-- with `all`, all are kept
abbrev pub kept_of : ℕ → Bool → ℕ → ℕ → ℕ
kept_of base all decimals n = if all then decimals else needed_of base decimals n

-- n / base ^ decimals with so many digits after the point
abbrev pub cut_to : ℕ → ℕ → ℕ → ℕ → ℕ
cut_to base decimals n kept = n / base ^ (decimals - kept)

abbrev pub is_zero_size : Float → Bool
is_zero_size nan = false
is_zero_size (inf s) = false
is_zero_size (fin s m e) = nat_eq m 0

-- the power of ten of the first of so many significant digits, plus 400
unfoldable pub power_of : Float → ℕ → ℕ
power_of x digits = if is_zero_size x then 400 else least_passing (λ p. nat_lt (scaled_at x digits p) (10 ^ digits)) 1000 0

-- these digits
abbrev pub number_of : Float → ℕ → ℕ
number_of x digits = if is_zero_size x then 0 else scaled_at x digits (power_of x digits)

-- ---- styles

abbrev pub fixed_of : Bool → ℕ → ℕ → List ℕ
fixed_of alt decimals n = fixed_text alt decimals n (count_of decimals n)

abbrev pub exponent_of : Bool → ℕ → ℕ → ℕ → List ℕ
exponent_of alt decimals n power = text_with true (scientific alt decimals n power)

-- the style of `%f` stands for the exponents from -4 to one less than the digits
abbrev pub is_plain_power : ℕ → ℕ → Bool
is_plain_power digits power = nat_le 396 power && nat_lt power (400 + digits)

abbrev pub general_of : Bool → ℕ → ℕ → ℕ → List ℕ
general_of alt digits n power =
    let plain = digits + 399 - power in
    let kept = kept_of 10 alt plain n in
    let raised = kept_of 10 alt (digits - 1) n in
    if is_plain_power digits power then fixed_of alt kept (cut_to 10 plain n kept) else exponent_of alt raised
    (cut_to 10 (digits - 1) n raised) power

-- a finite float's size, counted in 2 ^ -1074
abbrev pub units_of : Float → ℕ
units_of nan = 0
units_of (inf s) = 0
units_of (fin s m e) = m * up e * 2 ^ 1074 / down e

-- the least power of two at which fewer than 54 binary digits are left of them
unfoldable pub two_power_of : Float → ℕ
two_power_of x = least_passing (λ p. nat_lt (units_of x / 2 ^ p) (2 ^ 53)) 2046 0

-- these digits
abbrev pub binary_number_of : Float → ℕ
binary_number_of x = units_of x / 2 ^ two_power_of x

abbrev pub hex_numeral_of : Bool → Option ℕ → ℕ → List ℕ
hex_numeral_of alt None m = let kept = needed_of 16 13 m in hex_text alt kept (cut_to 16 13 m kept)
hex_numeral_of alt (Some decimals) m = hex_text alt decimals (closest (m * 16 ^ decimals) (2 ^ 52))

abbrev pub binary_exponent_of : ℕ → List ℕ
binary_exponent_of power = let size = (power - 1022) + (1022 - power) in
    112 ∷ (if nat_lt power 1022 then 45 else 43) ∷ fixed_digits (count_of 0 size) size

abbrev pub hexadecimal_of : Bool → Option ℕ → Float → List ℕ
hexadecimal_of alt precision x = let m = binary_number_of x in
    hex_numeral_of alt precision m ++ binary_exponent_of (binary_power m (two_power_of x))

-- ---- the text

abbrev pub digits_text : Style → Bool → Option ℕ → Float → List ℕ
digits_text Fixed alt precision x = let decimals = unwrap_or precision 6 in fixed_of alt decimals (scaled x decimals 0)
digits_text Exponent alt precision x = let decimals = unwrap_or precision 6 in
    exponent_of alt decimals (number_of x (decimals + 1)) (power_of x (decimals + 1))
digits_text General alt precision x = let digits = max (unwrap_or precision 6) 1 in
    general_of alt digits (number_of x (digits - 1 + 1)) (power_of x (digits - 1 + 1))
digits_text Hexadecimal alt precision x = hexadecimal_of alt precision x

abbrev pub size_text : Style → Bool → Option ℕ → Float → List ℕ
size_text style alt precision nan = codes "nan"
size_text style alt precision (inf s) = codes "inf"
size_text style alt precision (fin s m e) = digits_text style alt precision (fin s m e)

unfoldable pub float_text : FloatConv → Float → List ℕ
float_text c x = field_text c x (in_case c.upper (size_text c.style c.alt c.precision x))

-- a float has no text but this one
abbrev pub HasOneText : Type 0
HasOneText = (c : FloatConv) (x : Float) (t : List ℕ) → IsFloatText c x t → t ≡ float_text c x
