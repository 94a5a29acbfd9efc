-- The text that a conversion of a print format makes of a float (C11 7.21.6.1, paragraphs 4 to 8).
use Rattle.std.specs.Prelude.{◌≡◌, ℕ, ◌+◌, ◌-◌, Bool, true, false, ◌&&◌, not, List, [], ◌∷◌, ◌++◌, length, map, replicate, max}
use Rattle.std.specs.Prelude.{if◌then◌else◌, codes, Option, unwrap_or}
use Rattle.std.specs.Char.{to_ascii_uppercase}
use Rattle.std.specs.Float.{is_sign_negative, float_is_finite}
use Rattle.std.specs.Float.Ieee.{Float, nan, inf, fin}
use Rattle.ryu.specs.Plain.{text_with}
use Rattle.sf_float.specs.declared.text.Style.{Style}
use Rattle.sf_float.specs.declared.text.Style.TheVariants.{Fixed, Exponent, General, Hexadecimal}
use Rattle.sf_float.specs.declared.text.FloatConv.{FloatConv}
use Rattle.sf_float.specs.Scaled.{scaled, IsScientific}
use Rattle.sf_float.specs.Texts.{fixed_text, scientific, IsCount}
use Rattle.sf_float.specs.General.{IsGeneralText}
use Rattle.sf_float.specs.Hexadecimal.{IsHexadecimalText}

-- ---- the digits of a finite float

-- `f` with so many digits after the point; one digit stands before it at least (paragraph 8)
abbrev pub IsFixedText : Bool → ℕ → Float → List ℕ → Type 0
IsFixedText alt decimals x t = (count : ℕ) × IsCount decimals (scaled x decimals 0) count
    × (t ≡ fixed_text alt decimals (scaled x decimals 0) count)

-- `e` with so many
abbrev pub IsExponentText : Bool → ℕ → Float → List ℕ → Type 0
IsExponentText alt decimals x t = (n : ℕ) × (power : ℕ) × IsScientific x decimals n power
    × (t ≡ text_with true (scientific alt decimals n power))

-- without a precision `f`, `e` and `g` have 6, and `a` as many digits as are needed; for `g` a precision of 0 is one of 1 (paragraph 8)
abbrev pub IsDigitsText : Style → Bool → Option ℕ → Float → List ℕ → Type 0
IsDigitsText Fixed alt precision x t = IsFixedText alt (unwrap_or precision 6) x t
IsDigitsText Exponent alt precision x t = IsExponentText alt (unwrap_or precision 6) x t
IsDigitsText General alt precision x t = IsGeneralText alt (max (unwrap_or precision 6) 1) x t
IsDigitsText Hexadecimal alt precision x t = IsHexadecimalText alt precision x t

-- ---- the size of any float

-- an infinity is `inf`, and a NaN `nan` (paragraph 8)
abbrev pub IsSizeText : Style → Bool → Option ℕ → Float → List ℕ → Type 0
IsSizeText style alt precision nan t = t ≡ codes "nan"
IsSizeText style alt precision (inf s) t = t ≡ codes "inf"
IsSizeText style alt precision (fin s m e) t = IsDigitsText style alt precision (fin s m e) t

-- F E G A have capital letters (paragraph 8)
abbrev pub in_case : Bool → List ℕ → List ℕ
in_case upper t = if upper then map to_ascii_uppercase t else t

-- the size without a sign, and without the `0x` of `a`
abbrev pub IsSize : FloatConv → Float → List ℕ → Type 0
IsSize c x t = (size : List ℕ) × IsSizeText c.style c.alt c.precision x size × (t ≡ in_case c.upper size)

-- ---- what stands before it

-- a minus; else with `+` a plus; else with the flag blank a blank (paragraph 6); a NaN has no minus (ours)
abbrev pub sign : FloatConv → Float → List ℕ
sign c x = if is_sign_negative x then 45 ∷ [] else (if c.plus then 43 ∷ [] else (if c.blank then 32 ∷ [] else []))

abbrev pub is_hexadecimal : Style → Bool
is_hexadecimal Hexadecimal = true
is_hexadecimal _ = false

-- the 0x or 0X of `a`, before digits (paragraph 8)
abbrev pub mark : FloatConv → Float → List ℕ
mark c x = if is_hexadecimal c.style && float_is_finite x then 48 ∷ (if c.upper then 88 else 120) ∷ [] else []

-- ---- the field

-- the flag `0` counts where `-` doesn't stand, and before digits alone (paragraph 6)
abbrev pub pads_with_zeros : FloatConv → Float → Bool
pads_with_zeros c x = c.zero && not c.minus && float_is_finite x

-- how many bytes stand before the padding is made
abbrev pub bare_len : FloatConv → Float → List ℕ → ℕ
bare_len c x size = length (sign c x) + length (mark c x) + length size

abbrev pub left_blanks : FloatConv → Float → List ℕ → ℕ
left_blanks c x size = if c.minus then 0 else (if pads_with_zeros c x then 0 else c.width - bare_len c x size)

abbrev pub inner_zeros : FloatConv → Float → List ℕ → ℕ
inner_zeros c x size = if pads_with_zeros c x then c.width - bare_len c x size else 0

abbrev pub right_blanks : FloatConv → Float → List ℕ → ℕ
right_blanks c x size = if c.minus then c.width - bare_len c x size else 0

abbrev pub field_text : FloatConv → Float → List ℕ → List ℕ
field_text c x size =
    replicate (left_blanks c x size) 32 ++ sign c x ++ mark c x ++ replicate (inner_zeros c x size) 48 ++ size ++ replicate
    (right_blanks c x size) 32

-- the text of a float by a conversion
abbrev pub IsFloatText : FloatConv → Float → List ℕ → Type 0
IsFloatText c x t = (size : List ℕ) × IsSize c x size × (t ≡ field_text c x size)
