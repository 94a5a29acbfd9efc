-- Strings of JSON (RFC 8259, 7) that stand for bytes.
use Rattle.std.specs.Prelude.{ℕ, zero, suc, ◌-◌, ◌/◌, ◌%◌, nat_eq, nat_lt, if◌then◌else◌, List, [], ◌∷◌, ◌++◌}
use Rattle.std.specs.Str.Lossy.{utf8_valid_len}
use Rattle.sf_forms.specs.Quotes.{hex_digit}

-- a quote, a backslash, a line end, a carriage return and a tab by two bytes, another byte below the blank by its code, any
-- other as it is
abbrev pub json_escaped : ℕ → List ℕ
json_escaped b =
    if nat_eq b 34 then 92 ∷ 34 ∷ []
    else if nat_eq b 92 then 92 ∷ 92 ∷ []
    else if nat_eq b 10 then 92 ∷ 110 ∷ []
    else if nat_eq b 13 then 92 ∷ 114 ∷ []
    else if nat_eq b 9 then 92 ∷ 116 ∷ []
    else if nat_lt b 32 then 92 ∷ 117 ∷ 48 ∷ 48 ∷ hex_digit (b / 16) ∷ hex_digit (b % 16) ∷ []
    else b ∷ []

-- a byte that is no part of UTF-8, by the lone surrogate 0xdc00 + b: \udc80 to \udcff
abbrev pub stray : ℕ → List ℕ
stray b = 92 ∷ 117 ∷ 100 ∷ 99 ∷ hex_digit (b / 16) ∷ hex_digit (b % 16) ∷ []

-- What stands for the bytes, of which so many in front are known to be UTF-8. Where none is, the longest front that is UTF-8
-- is kept; where there is none, the first byte is stray.
abbrev pub json_from : ℕ → List ℕ → List ℕ
json_from known [] = []
json_from (suc known) (b ∷ bytes) = json_escaped b ++ json_from known bytes
json_from zero (b ∷ bytes) =
    if nat_eq (utf8_valid_len (b ∷ bytes)) 0 then stray b ++ json_from 0 bytes
    else json_escaped b ++ json_from (utf8_valid_len (b ∷ bytes) - 1) bytes

-- a text between quotes
abbrev pub json_string : List ℕ → List ℕ
json_string bytes = 34 ∷ (json_from 0 bytes ++ 34 ∷ [])
