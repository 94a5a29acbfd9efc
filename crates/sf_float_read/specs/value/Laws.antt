-- Laws of what is stored. What `%a` prints of a float is read as that float.
use Rattle.std.specs.Prelude.{◌≡◌, ℕ, ◌≤◌, ◌<◌, ◌^◌, Bool, List, Option, Some, None, ⊤, T, to_bits}
use Rattle.std.specs.Float.{is_sign_negative}
use Rattle.std.specs.Float.Ieee.{Float, Format, fits, binary32, binary64}
use Rattle.sf_base.specs.declared.real.Real as real
use Rattle.sf_float.specs.fewest.Digits.{format_of, number_of}
use Rattle.sf_float.specs.fewest.Laid.{shortest_text}
use Rattle.sf_float.specs.fewest.Laws.{IsPattern}
use Rattle.sf_float.specs.Hexadecimal.{IsHexadecimalText}
use Rattle.sf_float_read.specs.item.Sequences.{IsFloat}
use Rattle.sf_float_read.specs.value.Values.{IsHexValue, IsStored}
use Rattle.sf_float_read.specs.value.Computed.{stored_in}

-- a hexadecimal numeral has one value
abbrev pub OneHexValue : Type 0
OneHexValue = (f : Format) (negative : Bool) (t : List ℕ) (x y : Float) → IsHexValue f negative t x → IsHexValue f negative t y → x ≡ y

-- no precision, or 13 digits after the point, as many as a double has
abbrev pub IsLong : Option ℕ → Type 0
IsLong None = ⊤
IsLong (Some decimals) = 13 ≤ decimals

-- what stands after its sign and `0x` is a numeral that has its value
abbrev pub HexadecimalReadsBack : Type 0
HexadecimalReadsBack = (x : Float) (alt : Bool) (precision : Option ℕ) (t : List ℕ) → T (fits binary64 x) → IsLong precision
    → IsHexadecimalText alt precision x t → IsHexValue binary64 (is_sign_negative x) t x

-- of a sequence one thing is stored
abbrev pub OneStored : Type 0
OneStored = (f : Format) (item : List ℕ) (a b : Option ℕ) → IsStored f item a → IsStored f item b → a ≡ b

-- it is what the function computes; and it is stored of a matching sequence alone
abbrev pub StoredIsComputed : Type 0
StoredIsComputed = (f : Format) (item : List ℕ) → (IsFloat item → IsStored f item (stored_in f item))
    × ((r : Option ℕ) → IsStored f item r → IsFloat item × (r ≡ stored_in f item))

-- how many bits a pattern has
abbrev pub width : Format → ℕ
width binary32 = 32
width binary64 = 64

-- a pattern that is stored is that of a float of the format
abbrev pub StoredBits : Type 0
StoredBits = (f : Format) (item : List ℕ) (bits : ℕ) → IsStored f item (Some bits)
    → (bits < 2 ^ width f) × ((x : Float) × T (fits f x) × (bits ≡ to_bits f x))

-- of the shortest text of a float the pattern of that float is stored; of that of a NaN the one of the one NaN
abbrev pub ShortIsStored : Type 0
ShortIsStored = (r : real.Real) → IsPattern r → IsStored (format_of r) (shortest_text r) (Some (to_bits (format_of r) (number_of r)))
