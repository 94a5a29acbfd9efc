-- What is stored of a matching sequence, as a function. What specs/Values says of a pattern holds of this one, and of no other.
use Rattle.std.specs.Prelude.{ℕ, ◌+◌, ◌*◌, ◌^◌, Bool, false, ◌==◌, ◌&&◌, List, drop, slice_index, if◌then◌else◌, Option, Some, to_bits}
use Rattle.std.specs.Option.{option_and_then}
use Rattle.std.specs.Char.{to_ascii_lowercase}
use Rattle.std.specs.Float.Ieee.{Float, Format, nan, inf, round}
use Rattle.std.specs.Float.Parse.{parse_float}
use Rattle.sf_float_read.specs.value.Values.{is_minus, stored}
use Rattle.sf_float_read.specs.value.Hexadecimals.{digits_read, exponent_read, sign_len}

-- by how many powers of two the text of an exponent raises a number, and by how many it lowers it
abbrev pub ups : List ℕ → ℕ
ups t = if (exponent_read t).0 then 0 else (exponent_read t).1

abbrev pub downs : List ℕ → ℕ
downs t = if (exponent_read t).0 then (exponent_read t).1 else 0

-- of the digits read: their number, how many stand after the point, and the text of the exponent
abbrev pub read_as : Format → Bool → ℕ × ℕ × List ℕ → Float
read_as f negative r = round f negative (r.0 * 2 ^ ups r.2) (2 ^ (4 * r.1 + downs r.2))

abbrev pub hexadecimal_number : Format → Bool → List ℕ → Float
hexadecimal_number f negative t = read_as f negative (digits_read 0 0 false t)

-- the letter stands there, in either case
abbrev pub has_letter : List ℕ → ℕ → ℕ → Bool
has_letter t at letter = to_ascii_lowercase (slice_index t at) == letter

-- of an item of which this is left after its sign: `i` opens an infinity, `n` the one NaN, and `0x` a hexadecimal numeral
abbrev pub stored_size : Format → Bool → List ℕ → List ℕ → Option ℕ
stored_size f negative item size =
    if has_letter size 0 105 then Some (to_bits f (inf negative))
    else (if has_letter size 0 110 then Some (to_bits f nan)
    else (if slice_index size 0 == 48 && has_letter size 1 120 then stored f (hexadecimal_number f negative (drop 2 size))
    else option_and_then (stored f) (parse_float f item)))

unfoldable pub stored_in : Format → List ℕ → Option ℕ
stored_in f item = stored_size f (is_minus item) item (drop (sign_len item) item)
