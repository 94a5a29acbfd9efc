-- Matching sequences and input items (C11 7.21.6.2p9, p12; 7.22.1.4p3 for integers).
use Rattle.std.specs.Prelude.{◌≡◌, ℕ, ◌<◌, ◌≤◌, ◌⊎◌, Bool, true, false, List, [], ◌∷◌, ◌++◌, length, take, Option, Some, IfSome, unwrap_or}
use Rattle.std.specs.List.{AllByRecursion}
use Rattle.std.specs.Str.Parse.{IsNumeral}
use Rattle.sf_base.specs.Greatest.{IsGreatest}
use Rattle.sf_base.specs.Bytes.{AreBytes, is_white, magnitude}
use Rattle.sf_base.specs.Sets.{has_byte}
use Rattle.sf_format.specs.declared.directive.Numeral.{Numeral}
use Rattle.sf_format.specs.declared.directive.Lead.{Lead}
use Rattle.sf_format.specs.declared.directive.Lead.TheVariants.{Any, Minus, Nothing}
use Rattle.sf_format.specs.Leads.{has_plus, has_minus}
use Rattle.sf_format.specs.declared.directive.Shape.{Shape}
use Rattle.sf_format.specs.declared.directive.Shape.TheVariants.{Int, Text, Set, Chars, Float, Count}
use Rattle.sf_format.specs.declared.directive.Conversion.{Conversion}
use Rattle.sf_float_read.specs.item.Sequences.{IsFloatOf}
use Rattle.sf_float_read.specs.declared.item.reached.Forms.{Forms}
use Rattle.sf_float_read.specs.declared.item.reached.Forms.TheVariants.{All, Decimal}
use Rattle.sf_item.specs.Radices.{first_radix, zero_radix, prefix_radix}

-- one or more digits of the radix, and their number
abbrev pub IsIntegerDigits : ℕ → List ℕ → ℕ → Type 0
IsIntegerDigits radix ds m = IsNumeral radix ds × (m ≡ magnitude radix ds)

-- 0, the letter of a prefix that the numeral has, and a number of its radix
abbrev pub IsPrefixed : Numeral → List ℕ → ℕ → Type 0
IsPrefixed numeral [] m = ⊥
IsPrefixed numeral (zero_digit ∷ []) m = ⊥
IsPrefixed numeral (zero_digit ∷ letter ∷ ds) m =
    (zero_digit ≡ 48) × ((radix : ℕ) × (prefix_radix numeral letter ≡ Some radix) × IsIntegerDigits radix ds m)

-- the first digit is 0
abbrev pub StartsWithZero : List ℕ → Type 0
StartsWithZero [] = ⊥
StartsWithZero (b ∷ bs) = b ≡ 48

-- what follows the sign of an integer, and its magnitude
abbrev pub IsUnsignedInteger : Numeral → List ℕ → ℕ → Type 0
IsUnsignedInteger numeral body m =
    ((StartsWithZero body → ⊥) × IsIntegerDigits (first_radix numeral) body m)
    ⊎ (StartsWithZero body × IsIntegerDigits (zero_radix numeral) body m)
    ⊎ IsPrefixed numeral body m

-- an optional sign, of those that may stand there; a minus is negative
abbrev pub IsIntegerSign : Lead → List ℕ → Bool → Type 0
IsIntegerSign lead [] negative = negative ≡ false
IsIntegerSign lead (b ∷ []) negative =
    (has_plus lead ≡ true) × (b ≡ 43) × (negative ≡ false) ⊎ (has_minus lead ≡ true) × (b ≡ 45) × (negative ≡ true)
IsIntegerSign lead (b ∷ c ∷ bs) negative = ⊥

-- an integer written so, with its sign and magnitude
abbrev pub IsInteger : Numeral → List ℕ → Bool → ℕ → Type 0
IsInteger numeral s negative m =
    (sign : List ℕ) × (body : List ℕ) × (s ≡ sign ++ body) × IsIntegerSign numeral.lead sign negative × IsUnsignedInteger numeral body m

-- the forms of a float, with ! or without
abbrev pub forms_of : Lead → Forms
forms_of Any = All
forms_of Minus = Decimal
forms_of Nothing = Decimal

-- s is a matching sequence of the shape; the width is the count of bytes that Chars takes, and bounds no other
abbrev pub ShapeMatches : Shape → Option ℕ → List ℕ → Type 0
ShapeMatches (Int numeral) width s = (negative : Bool) × (m : ℕ) × IsInteger numeral s negative m
ShapeMatches (Text lead) width s = (0 < length s) × AllByRecursion (λ b. is_white b ≡ false) s
ShapeMatches (Set members) width s = (0 < length s) × AllByRecursion (λ b. has_byte members b ≡ true) s
ShapeMatches Chars width s = length s ≡ unwrap_or width 1
ShapeMatches (Float lead) width s = IsFloatOf (forms_of lead) s
ShapeMatches Count width s = ⊥

-- s is a matching sequence of the conversion
abbrev pub Matches : Conversion → List ℕ → Type 0
Matches c s = ShapeMatches c.shape c.width s

-- f is a matching sequence or a front of one; no width bounds what may follow (our choice: C11 7.21.6.2p9 leaves it open)
abbrev pub BeginsMatch : Conversion → List ℕ → Type 0
BeginsMatch c f = (t : List ℕ) × AreBytes t × Matches c (f ++ t)

-- n bytes are within the conversion's width, where it has one
abbrev pub IsWithin : Conversion → ℕ → Type 0
IsWithin c n = IfSome c.width (λ w. n ≤ w)

-- the input item has k bytes: the longest front of x, within the width, that begins a matching sequence
abbrev pub IsItem : Conversion → List ℕ → ℕ → Type 0
IsItem c x k = IsGreatest (λ j. (j ≤ length x) × IsWithin c j × BeginsMatch c (take j x)) k
