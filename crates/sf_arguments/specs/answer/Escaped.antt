-- Bytes as a word of the command has them.
use Rattle.std.specs.Prelude.{ℕ, ◌/◌, ◌%◌, ◌≤◌, ◌==◌, ◌&&◌, nat_le, if◌then◌else◌, List, [], ◌∷◌, Option, Some, None}
use Rattle.std.specs.List.{AllByRecursion, flat_map}
use Rattle.std.specs.Char.{digit_char}

-- the letter that stands for the byte after a backslash
abbrev pub escape_letter : ℕ → Option ℕ
escape_letter b =
    if b == 92 then Some 92
    else if b == 10 then Some 110
    else if b == 9 then Some 116
    else if b == 11 then Some 118
    else if b == 12 then Some 102
    else if b == 13 then Some 114
    else None

-- a byte that is seen, or a blank, stands for itself; any other one is written in two hexadecimal digits
abbrev pub escape_by : Option ℕ → ℕ → List ℕ
escape_by (Some letter) b = 92 ∷ letter ∷ []
escape_by None b =
    if nat_le 32 b && nat_le b 126 then b ∷ []
    else 92 ∷ 120 ∷ digit_char (b / 16) ∷ digit_char (b % 16) ∷ []

abbrev pub escape_of : ℕ → List ℕ
escape_of b = escape_by (escape_letter b) b

abbrev pub escaped : List ℕ → List ℕ
escaped bytes = flat_map escape_of bytes

-- each byte is one that is seen, or a blank
abbrev pub AreShown : List ℕ → Type 0
AreShown word = AllByRecursion (λ b. (32 ≤ b) × (b ≤ 126)) word
