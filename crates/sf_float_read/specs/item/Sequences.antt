-- The matching sequences of `a e f g` (C11 7.21.6.2p12, 7.22.1.3p3, in the C locale), read from the left. Each definition says what may
-- stand from a place on.
use Rattle.std.specs.Prelude.{◌≡◌, ◌⊎◌, ℕ, Bool, true, ◌||◌, ◌==◌, List, [], ◌∷◌, ⊤}
use Rattle.std.specs.Char.{is_ascii_digit, is_ascii_hexdigit, is_ascii_alphanumeric, to_ascii_lowercase}
use Rattle.sf_float_read.specs.declared.item.reached.Forms.{Forms}
use Rattle.sf_float_read.specs.declared.item.reached.Forms.TheVariants.{All, Decimal}
use Rattle.sf_float_read.specs.declared.item.reached.Radix.{Radix}
use Rattle.sf_float_read.specs.declared.item.reached.Radix.TheVariants.{Ten, Sixteen}

abbrev pub is_digit : Radix → ℕ → Bool
is_digit Ten b = is_ascii_digit b
is_digit Sixteen b = is_ascii_hexdigit b

-- e of a decimal number, p of a hexadecimal one, of either case
abbrev pub opens_exponent : Radix → ℕ → Bool
opens_exponent Ten b = b == 101 || b == 69
opens_exponent Sixteen b = b == 112 || b == 80

abbrev pub is_sign : ℕ → Bool
is_sign b = b == 43 || b == 45

abbrev pub AllDecimal : List ℕ → Type 0
AllDecimal [] = ⊤
AllDecimal (b ∷ t) = (is_ascii_digit b ≡ true) × AllDecimal t

-- one decimal digit or more
abbrev pub IsDecimal : List ℕ → Type 0
IsDecimal [] = ⊥
IsDecimal (b ∷ t) = (is_ascii_digit b ≡ true) × AllDecimal t

-- an optional sign, and decimal digits
abbrev pub IsSignedDecimal : List ℕ → Type 0
IsSignedDecimal [] = ⊥
IsSignedDecimal (b ∷ t) = (is_sign b ≡ true) × IsDecimal t ⊎ IsDecimal (b ∷ t)

-- nothing, or an exponent
abbrev pub IsExponentPart : Radix → List ℕ → Type 0
IsExponentPart radix [] = ⊤
IsExponentPart radix (b ∷ t) = (opens_exponent radix b ≡ true) × IsSignedDecimal t

-- digits after the point, and an exponent or none
abbrev pub IsFraction : Radix → List ℕ → Type 0
IsFraction radix [] = ⊤
IsFraction radix (b ∷ t) = (is_digit radix b ≡ true) × IsFraction radix t ⊎ IsExponentPart radix (b ∷ t)

-- the same, with one digit at least
abbrev pub IsSomeFraction : Radix → List ℕ → Type 0
IsSomeFraction radix [] = ⊥
IsSomeFraction radix (b ∷ t) = (is_digit radix b ≡ true) × IsFraction radix t

-- more digits, perhaps a point and more, and an exponent or none
abbrev pub IsWhole : Radix → List ℕ → Type 0
IsWhole radix [] = ⊤
IsWhole radix (b ∷ t) = (is_digit radix b ≡ true) × IsWhole radix t ⊎ (b ≡ 46) × IsFraction radix t ⊎ IsExponentPart radix (b ∷ t)

-- digits with at most one point and at least one digit, and an exponent or none
abbrev pub IsNumber : Radix → List ℕ → Type 0
IsNumber radix [] = ⊥
IsNumber radix (b ∷ t) = (is_digit radix b ≡ true) × IsWhole radix t ⊎ (b ≡ 46) × IsSomeFraction radix t

-- the word in either case, and nothing else
abbrev pub SpellsWord : List ℕ → List ℕ → Type 0
SpellsWord [] [] = ⊤
SpellsWord [] (b ∷ t) = ⊥
SpellsWord (w ∷ ws) [] = ⊥
SpellsWord (w ∷ ws) (b ∷ t) = (to_ascii_lowercase b ≡ w) × SpellsWord ws t

-- digits, letters and underscores, up to a closing parenthesis at the end
abbrev pub IsPayload : List ℕ → Type 0
IsPayload [] = ⊥
IsPayload (b ∷ t) = (b ≡ 41) × (t ≡ []) ⊎ (is_ascii_alphanumeric b || b == 95 ≡ true) × IsPayload t

-- after `nan`: nothing, or a payload in parentheses
abbrev pub IsNanTail : List ℕ → Type 0
IsNanTail [] = ⊤
IsNanTail (b ∷ t) = (b ≡ 40) × IsPayload t

-- the word in either case, and then what has the property
abbrev pub Begins : List ℕ → (List ℕ → Type 0) → List ℕ → Type 0
Begins [] P t = P t
Begins (w ∷ ws) P [] = ⊥
Begins (w ∷ ws) P (b ∷ t) = (to_ascii_lowercase b ≡ w) × Begins ws P t

-- after `inf`: nothing, or the rest of `infinity`
abbrev pub IsInfinityTail : List ℕ → Type 0
IsInfinityTail t = (t ≡ []) ⊎ SpellsWord (105 ∷ 110 ∷ 105 ∷ 116 ∷ 121 ∷ []) t

-- after a first 0: the decimal number goes on, or x and a hexadecimal number
abbrev pub IsZeroTail : List ℕ → Type 0
IsZeroTail [] = ⊤
IsZeroTail (b ∷ t) = IsWhole Ten (b ∷ t) ⊎ (b == 120 || b == 88 ≡ true) × IsNumber Sixteen t

-- what follows the sign
abbrev pub IsUnsigned : List ℕ → Type 0
IsUnsigned [] = ⊥
IsUnsigned (b ∷ t) = (b ≡ 48) × IsZeroTail t ⊎ IsNumber Ten (b ∷ t)
    ⊎ Begins (105 ∷ 110 ∷ 102 ∷ []) IsInfinityTail (b ∷ t) ⊎ Begins (110 ∷ 97 ∷ 110 ∷ []) IsNanTail (b ∷ t)

-- a matching sequence
abbrev pub IsFloat : List ℕ → Type 0
IsFloat [] = ⊥
IsFloat (b ∷ t) = (is_sign b ≡ true) × IsUnsigned t ⊎ IsUnsigned (b ∷ t)

-- one of a conversion with !: a minus or none, and a decimal number
abbrev pub IsDecimalFloat : List ℕ → Type 0
IsDecimalFloat [] = ⊥
IsDecimalFloat (b ∷ t) = (b ≡ 45) × IsNumber Ten t ⊎ IsNumber Ten (b ∷ t)

-- one of these forms
abbrev pub IsFloatOf : Forms → List ℕ → Type 0
IsFloatOf All f = IsFloat f
IsFloatOf Decimal f = IsDecimalFloat f
