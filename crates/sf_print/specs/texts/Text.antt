-- The text that a conversion of a print format makes of a value. (C11 7.21.6.1, paragraphs 4 to 8)
use Rattle.std.specs.Prelude.{ℕ, ◌+◌, ◌-◌, ℤ, pos, negsuc, Bool, true, false, ◌==◌, ◌&&◌, not, if◌then◌else◌, List, [], ◌∷◌, ◌++◌, length}
use Rattle.std.specs.Prelude.{take, replicate, slice_index, unsigned_abs, Option, Some, None, unwrap_or, is_none}
use Rattle.std.specs.Fmt.{digits}
use Rattle.sf_base.specs.Data.{Datum}
pub use Rattle.sf_base.specs.Data.{with_sign}
use Rattle.sf_base.specs.Data.Datum.{Number, Bytes, Real}
use Rattle.sf_format.specs.declared.unit.PrintLetter.{PrintLetter}
use Rattle.sf_format.specs.declared.unit.PrintLetter.TheVariants as letter
use Rattle.sf_format.specs.declared.unit.PrintConv.{PrintConv}
use Rattle.sf_print.specs.texts.Floats.{real_text}

-- ---- the digits of an integer

-- o is unsigned octal, x and X unsigned hexadecimal, d and u decimal (paragraph 8); b is unsigned binary (ours)
abbrev pub base_of : PrintLetter → ℕ
base_of letter.Octal = 8
base_of letter.HexLower = 16
base_of letter.HexUpper = 16
base_of letter.Binary = 2
base_of _ = 10

-- X has the digits A to F, x has a to f (paragraph 8)
abbrev pub is_upper : PrintLetter → Bool
is_upper letter.HexUpper = true
is_upper _ = false

abbrev pub is_octal : PrintLetter → Bool
is_octal letter.Octal = true
is_octal _ = false

-- blanks, and zeros
abbrev pub blanks : ℕ → List ℕ
blanks n = replicate n 32

abbrev pub zeros : ℕ → List ℕ
zeros n = replicate n 48

-- the least number of digits: the precision, and 1 where there is none (paragraph 8)
abbrev pub least_digits : PrintConv → ℕ
least_digits c = unwrap_or c.precision 1

-- the digits of a magnitude without needless zeros; 0 with the precision 0 has none (paragraph 8)
abbrev pub numeral : PrintConv → ℕ → List ℕ
numeral c m = if m == 0 && least_digits c == 0 then [] else digits (base_of c.letter) (is_upper c.letter) m

-- zeros before the digits, up to the precision
abbrev pub filled : PrintConv → List ℕ → List ℕ
filled c ds = zeros (least_digits c - length ds) ++ ds

abbrev pub opens_with_zero : List ℕ → Bool
opens_with_zero ds = slice_index ds 0 == 48

-- the flag `#` makes the first digit of an octal number a zero (paragraph 6)
abbrev pub with_octal_zero : PrintConv → List ℕ → List ℕ
with_octal_zero c ds = if is_octal c.letter && c.alt && not (opens_with_zero ds) then 48 ∷ ds else ds

abbrev pub all_digits : PrintConv → ℕ → List ℕ
all_digits c m = with_octal_zero c (filled c (numeral c m))

-- ---- what stands before the digits

-- a minus; else with `+` a plus; else with the flag blank a blank (paragraph 6)
abbrev pub sign : PrintConv → ℤ → List ℕ
sign c (negsuc n) = 45 ∷ []
sign c (pos n) = if c.plus then 43 ∷ [] else (if c.blank then 32 ∷ [] else [])

-- 0x, 0X and 0b
abbrev pub base_mark : PrintLetter → List ℕ
base_mark letter.HexLower = 48 ∷ 120 ∷ []
base_mark letter.HexUpper = 48 ∷ 88 ∷ []
base_mark letter.Binary = 48 ∷ 98 ∷ []
base_mark _ = []

-- the flag `#` puts its mark before a hexadecimal or binary number other than 0 (paragraph 6)
abbrev pub mark : PrintConv → ℕ → List ℕ
mark c m = if c.alt && not (m == 0) then base_mark c.letter else []

abbrev pub prefix : PrintConv → ℤ → List ℕ
prefix c z = sign c z ++ mark c (unsigned_abs z)

-- ---- the field

-- the flag `0` counts where neither `-` nor a precision stands (paragraph 6)
abbrev pub pads_with_zeros : PrintConv → Bool
pads_with_zeros c = c.zero && not c.minus && is_none c.precision

-- how far this many bytes are short of the field width (paragraph 4)
abbrev pub short_by : PrintConv → ℕ → ℕ
short_by c len = c.width - len

abbrev pub left_blanks : PrintConv → ℕ → ℕ
left_blanks c len = if c.minus then 0 else (if pads_with_zeros c then 0 else short_by c len)

abbrev pub inner_zeros : PrintConv → ℕ → ℕ
inner_zeros c len = if pads_with_zeros c then short_by c len else 0

abbrev pub right_blanks : PrintConv → ℕ → ℕ
right_blanks c len = if c.minus then short_by c len else 0

-- ---- texts of values

-- digits after a prefix, padded to the width
abbrev pub text_around : PrintConv → List ℕ → List ℕ → List ℕ
text_around c p ds = let len = length p + length ds in
    blanks (left_blanks c len) ++ p ++ zeros (inner_zeros c len) ++ ds ++ blanks (right_blanks c len)

abbrev pub integer_text : PrintConv → ℤ → List ℕ
integer_text c z = text_around c (prefix c z) (all_digits c (unsigned_abs z))

-- the first bytes up to the precision, or all
abbrev pub first_bytes : Option ℕ → List ℕ → List ℕ
first_bytes None bytes = bytes
first_bytes (Some most) bytes = take most bytes

-- a precision cuts the bytes of s; c has none (paragraph 4)
abbrev pub shown_bytes : PrintLetter → Option ℕ → List ℕ → List ℕ
shown_bytes letter.Text precision bytes = first_bytes precision bytes
shown_bytes _ precision bytes = bytes

-- bytes with blanks on the left, or with `-` on the right
abbrev pub padded : PrintConv → List ℕ → List ℕ
padded c bytes = let short = short_by c (length bytes) in
    blanks (if c.minus then 0 else short) ++ bytes ++ blanks (if c.minus then short else 0)

abbrev pub bytes_text : PrintConv → List ℕ → List ℕ
bytes_text c bytes = padded c (shown_bytes c.letter c.precision bytes)

abbrev pub value_text : PrintConv → Datum → List ℕ
value_text c (Number kind z) = integer_text c z
value_text c (Bytes bytes) = bytes_text c bytes
value_text c (Real r) = real_text c r
