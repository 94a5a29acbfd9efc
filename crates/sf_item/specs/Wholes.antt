-- Items that end within a piece of the input.
use Rattle.std.specs.Prelude.{◌≡◌, ◌≢◌, ℕ, zero, suc, ◌+◌, ◌^◌, ◌<◌, ◌≤◌, ◌⊎◌, nat_lt, Bool, false, List, ◌++◌, length, take, get_or}
use Rattle.std.specs.Prelude.{Option, Some, true}
use Rattle.std.specs.Char.{digit_value}
use Rattle.sf_format.specs.declared.directive.Numeral.{Numeral}
use Rattle.sf_format.specs.declared.directive.Base.{Base}
use Rattle.sf_format.specs.declared.directive.Base.TheVariants.{Hex}
use Rattle.sf_format.specs.declared.directive.Lead.{Lead}
use Rattle.sf_format.specs.declared.directive.Lead.TheVariants.{Any}
use Rattle.sf_format.specs.Leads.{has_plus, has_minus, has_prefix}
use Rattle.sf_format.specs.declared.directive.Shape.{Shape}
use Rattle.sf_format.specs.declared.directive.Shape.TheVariants.{Int}
use Rattle.sf_format.specs.declared.directive.Conversion.{Conversion}
use Rattle.sf_format.specs.Proper.{IsProperShape}
use Rattle.sf_item.specs.declared.whole.WholeInteger.{WholeInteger}
use Rattle.sf_item.specs.Matching.{IsInteger, IsItem, Matches}
use Rattle.sf_item.specs.Progress.{Progress, Start, Signed, Prefix, Digits}
use Rattle.sf_item.specs.Scan.{FitsLeft}
use Rattle.sf_item.specs.Taking.{IsInt}
use Rattle.sf_item.specs.Tests.{read}

-- The input item of each conversion of the numeral and the width ends before a byte of the piece, whatever follows the piece, and it is an
-- integer with this sign and number.
pub record EndsWithin (numeral : Numeral) (width : Option ℕ) (piece : List ℕ) (w : WholeInteger) : Type 0 where
  pub behind : w.bytes < length piece
  pub item : (c : Conversion) → c.shape ≡ Int numeral → c.width ≡ width → (z : List ℕ) → IsItem c (piece ++ z) w.bytes
  pub integer : IsInteger numeral (take w.bytes piece) w.negative w.magnitude

-- the bytes are those of the piece that an item with the width may have
pub record IsCutBy (width : Option ℕ) (piece front : List ℕ) : Type 0 where
  pub room : (k : ℕ) → k ≤ length front → FitsLeft width k
  pub whole : length front < length piece → width ≡ Some (length front)

-- no integer ends within the piece whose number is below 2^64
abbrev pub NoneEndsWithin : Numeral → Option ℕ → List ℕ → Type 0
NoneEndsWithin numeral width piece = (w : WholeInteger) → EndsWithin numeral width piece w → 2 ^ 64 ≤ w.magnitude

-- The input item of each conversion with the shape and the width has n bytes, whatever follows the piece, ends before a byte of the piece,
-- and is a matching sequence.
pub record ItemWithin (shape : Shape) (width : Option ℕ) (piece : List ℕ) (n : ℕ) : Type 0 where
  pub some : 0 < n
  pub behind : n < length piece
  pub item : (c : Conversion) → c.shape ≡ shape → c.width ≡ width → IsProperShape shape → (z : List ℕ) → IsItem c (piece ++ z) n
  pub matches : (c : Conversion) → c.shape ≡ shape → c.width ≡ width → Matches c (take n piece)

-- no item ends so within the piece, but perhaps an integer
abbrev pub NoItemWithin : Shape → Option ℕ → List ℕ → Type 0
NoItemWithin shape width piece = (n : ℕ) → ItemWithin shape width piece n → IsInt shape

-- ---- the parts of an integer

-- an integer of the base, with this before its digits
abbrev pub led_by : Lead → Base → Numeral
led_by lead base = record { base = base; lead = lead }

-- with the digits t of the radix, a number becomes another
abbrev pub ReadsIn : ℕ → ℕ → List ℕ → ℕ → Type 0
ReadsIn radix before t after = (numeral : Numeral) (sign : Bool)
    → read numeral (Some (Digits sign radix before)) t ≡ Some (Digits sign radix after)

-- a byte that is a hexadecimal digit, in either case
abbrev pub is_hex_digit : ℕ → Bool
is_hex_digit b = nat_lt (digit_value b) 16

-- the bytes begin with so many digits of the radix, and no more, and this is their number
pub record DigitsOf (radix : ℕ) (bytes : List ℕ) (count number : ℕ) : Type 0 where
  pub within : count ≤ length bytes
  pub read : ReadsIn radix 0 (take count bytes) number
  pub stops : count < length bytes → radix ≤ digit_value (get_or bytes count 0)

-- the number of the digits that the bytes begin with is not below 2^64
pub record LongDigits (radix : ℕ) (bytes : List ℕ) : Type 0 where
  pub count : ℕ
  pub number : ℕ
  pub digits : DigitsOf radix bytes count number
  pub large : 2 ^ 64 ≤ number

-- the bytes begin with no digit of the radix
pub record NoDigits (radix : ℕ) (bytes : List ℕ) : Type 0 where
  pub number : ℕ
  pub digits : DigitsOf radix bytes 0 number

-- how far an integer is read with so many bytes of a sign
abbrev pub signed_as : ℕ → Bool → Progress
signed_as zero negative = Start
signed_as (suc n) negative = Signed negative

-- the bytes begin with so many of a sign that may stand there
pub record SignOf (lead : Lead) (bytes : List ℕ) (count : ℕ) (negative : Bool) : Type 0 where
  pub within : count ≤ length bytes
  pub plain : count ≡ 0 → negative ≡ false
  pub read : (base : Base) → read (led_by lead base) (Some Start) (take count bytes) ≡ Some (signed_as count negative)
  pub bare : count ≡ 0 → 0 < length bytes
      → (has_plus lead ≡ true → get_or bytes 0 0 ≢ 43) × (has_minus lead ≡ true → get_or bytes 0 0 ≢ 45)

-- 0 and the letter of the prefix of a hexadecimal integer stand at the place
abbrev pub HasPrefixAt : List ℕ → ℕ → Type 0
HasPrefixAt bytes at = (at + 1 < length bytes) × (get_or bytes at 0 ≡ 48)
    × ((get_or bytes (at + 1) 0 ≡ 120) ⊎ (get_or bytes (at + 1) 0 ≡ 88))

-- so many bytes are a sign and a prefix, or a sign that no prefix follows which may stand there
abbrev pub HexOpening : Lead → List ℕ → ℕ → Bool → Type 0
HexOpening lead bytes count negative =
    (count ≤ length bytes) × (read (led_by lead Hex) (Some Start) (take count bytes) ≡ Some (Prefix negative 16))
    ⊎ SignOf lead bytes count negative × (has_prefix lead ≡ true → HasPrefixAt bytes count → ⊥)

-- a sign or none stands in front, and a zero after it
pub record ZeroFirst (piece : List ℕ) : Type 0 where
  pub front : List ℕ
  pub is : front ≡ take (length front) piece
  pub start : ℕ
  pub negative : Bool
  pub sign : SignOf Any front start negative
  pub digit : (start < length front) × (get_or front start 0 ≡ 48)
