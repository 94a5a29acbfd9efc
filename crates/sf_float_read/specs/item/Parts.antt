-- The matching sequences of `a e f g` in C's words: parts that are joined (C11 7.22.1.3p3, 6.4.4.2).
use Rattle.std.specs.Prelude.{◌≡◌, ◌⊎◌, ℕ, ◌+◌, ◌<◌, true, ◌||◌, ◌==◌, List, [], ◌∷◌, ◌++◌, length}
use Rattle.std.specs.List.{AllByRecursion}
use Rattle.std.specs.Char.{is_ascii_alphanumeric}
use Rattle.sf_float_read.specs.declared.item.reached.Radix.{Radix}
use Rattle.sf_float_read.specs.declared.item.reached.Radix.TheVariants.{Ten, Sixteen}
use Rattle.sf_float_read.specs.item.Sequences.{is_digit, opens_exponent, SpellsWord, IsFloat, IsDecimalFloat}

-- digits, or none
abbrev pub AreDigits : Radix → List ℕ → Type 0
AreDigits radix ds = AllByRecursion (λ b. is_digit radix b ≡ true) ds

-- a plus, a minus, or nothing
abbrev pub IsSign : List ℕ → Type 0
IsSign t = (t ≡ []) ⊎ (t ≡ 43 ∷ []) ⊎ (t ≡ 45 ∷ [])

-- a letter, a sign or none, and one decimal digit or more (6.4.4.2p1: exponent-part, binary-exponent-part)
pub record IsExponent (radix : Radix) (t : List ℕ) : Type 0 where
  pub letter : ℕ
  pub sign : List ℕ
  pub digits : List ℕ
  pub opens : opens_exponent radix letter ≡ true
  pub signed : IsSign sign
  pub all : AreDigits Ten digits
  pub some : 0 < length digits
  pub joined : t ≡ letter ∷ (sign ++ digits)

-- a nonempty sequence of digits, which may contain a point, and an exponent or none (7.22.1.3p3)
pub record IsNumeral (radix : Radix) (t : List ℕ) : Type 0 where
  pub whole : List ℕ
  pub point : List ℕ
  pub fraction : List ℕ
  pub exponent : List ℕ
  pub whole_digits : AreDigits radix whole
  pub fraction_digits : AreDigits radix fraction
  pub some : 0 < length whole + length fraction
  pub pointed : (point ≡ []) × (fraction ≡ []) ⊎ (point ≡ 46 ∷ [])
  pub raised : (exponent ≡ []) ⊎ IsExponent radix exponent
  pub joined : t ≡ whole ++ (point ++ (fraction ++ exponent))

-- 0x or 0X, and a hexadecimal numeral
abbrev pub IsHexadecimal : List ℕ → Type 0
IsHexadecimal t = (x : ℕ) × (numeral : List ℕ) × ((x ≡ 120) ⊎ (x ≡ 88)) × (t ≡ 48 ∷ x ∷ numeral) × IsNumeral Sixteen numeral

-- `inf` or `infinity`, in either case
abbrev pub IsInfinity : List ℕ → Type 0
IsInfinity t = SpellsWord (105 ∷ 110 ∷ 102 ∷ []) t ⊎ SpellsWord (105 ∷ 110 ∷ 102 ∷ 105 ∷ 110 ∷ 105 ∷ 116 ∷ 121 ∷ []) t

-- nothing, or letters, digits and underscores in parentheses, or none in them (7.22.1.3p3: n-char-sequence)
abbrev pub IsCharSequence : List ℕ → Type 0
IsCharSequence t = (t ≡ []) ⊎ ((chars : List ℕ) × AllByRecursion (λ b. is_ascii_alphanumeric b || b == 95 ≡ true) chars
    × (t ≡ 40 ∷ (chars ++ 41 ∷ [])))

-- `nan`, in either case, and such a sequence or none
abbrev pub IsNan : List ℕ → Type 0
IsNan t = (name : List ℕ) × (chars : List ℕ) × SpellsWord (110 ∷ 97 ∷ 110 ∷ []) name × IsCharSequence chars × (t ≡ name ++ chars)

-- a sign or none, and one of the four
abbrev pub IsFloatInParts : List ℕ → Type 0
IsFloatInParts f = (sign : List ℕ) × (size : List ℕ) × IsSign sign × (f ≡ sign ++ size)
    × (IsNumeral Ten size ⊎ IsHexadecimal size ⊎ IsInfinity size ⊎ IsNan size)

-- with !: a minus or none, and a decimal numeral
abbrev pub IsDecimalInParts : List ℕ → Type 0
IsDecimalInParts f = (sign : List ℕ) × (size : List ℕ) × ((sign ≡ []) ⊎ (sign ≡ 45 ∷ [])) × (f ≡ sign ++ size) × IsNumeral Ten size

-- both relations say the same
abbrev pub PartsAreSequences : Type 0
PartsAreSequences = (f : List ℕ) → (IsFloat f → IsFloatInParts f) × (IsFloatInParts f → IsFloat f)
    × (IsDecimalFloat f → IsDecimalInParts f) × (IsDecimalInParts f → IsDecimalFloat f)
