-- The parts of a scan format that reads back what a print format prints.
use Rattle.std.specs.Prelude.{ℕ, ◌+◌, ◌≡◌, ◌≢◌, ◌==◌, ◌&&◌, Bool, true, false, not, if◌then◌else◌, List, [], ◌∷◌, ◌++◌, Option, Some}
use Rattle.std.specs.Prelude.{None, codes}
use Rattle.std.specs.Fmt.{decimal}
use Rattle.sf_base.specs.Bytes.{is_white}
use Rattle.sf_base.specs.Kinds.{bounds_of}
use Rattle.sf_base.specs.declared.values.Kind.{Kind}
use Rattle.sf_base.specs.declared.values.Kind.TheVariants as kind
use Rattle.sf_format.specs.declared.unit.PrintLetter.{PrintLetter}
use Rattle.sf_format.specs.declared.unit.PrintLetter.TheVariants as letter
use Rattle.sf_format.specs.declared.unit.PrintConv.{PrintConv}
use Rattle.sf_format.specs.declared.unit.Unit.{Unit as PrintUnit}
use Rattle.sf_format.specs.declared.unit.Unit.TheVariants as unit
use Rattle.sf_format.specs.Units.{is_double}
use Rattle.sf_pair.specs.conversions.Widths.{IsLongerEnd, longest_float}

-- ---- a literal

-- white space by a set of that byte, since a run of white space in a format takes any white space; `%` by `%%`
abbrev pub literal_part : ℕ → List ℕ
literal_part b =
    if is_white b then codes "%*1[" ++ (b ∷ codes "]")
    else (if b == 37 then codes "%%" else b ∷ [])

-- ---- a conversion (C11 7.21.6.2p3): `%`, the number of its destination, the width, the length and the letter

abbrev pub number_part : Bool → ℕ → List ℕ
number_part true slot = decimal slot ++ codes "$"
number_part false slot = []

abbrev pub width_part : Option ℕ → List ℕ
width_part None = []
width_part (Some n) = decimal n

abbrev pub length_part : Kind → List ℕ
length_part kind.I8 = codes "hh"
length_part kind.U8 = codes "hh"
length_part kind.I16 = codes "h"
length_part kind.U16 = codes "h"
length_part kind.I64 = codes "l"
length_part kind.U64 = codes "l"
length_part kind.F64 = codes "l"
length_part _ = []

-- `d` and `i` by `d`: `i` would take 010 as 8; each float by `f`
abbrev pub letter_part : PrintLetter → List ℕ
letter_part letter.Signed = codes "d"
letter_part letter.Unsigned = codes "u"
letter_part letter.Octal = codes "o"
letter_part letter.HexLower = codes "x"
letter_part letter.HexUpper = codes "X"
letter_part letter.Binary = codes "b"
letter_part letter.Text = codes "s"
letter_part letter.One = codes "c"
letter_part (letter.Float style upper) = codes "f"

abbrev pub opening_part : Bool → ℕ → Option ℕ → List ℕ
opening_part numbered slot width = codes "%" ++ (number_part numbered slot ++ width_part width)

-- ---- a text: up to the literal that follows, if one does that is no white space

abbrev pub stop_of : List PrintUnit → Option ℕ
stop_of (unit.Byte b ∷ us) = if is_white b then None else Some b
stop_of _ = None

abbrev pub text_part : Option ℕ → List ℕ
text_part None = codes "s"
text_part (Some b) = codes "[^" ++ (b ∷ codes "]")

-- ---- all parts

-- the numbers of the values are 1, 2, .. in the order of the conversions, from this one on
abbrev pub in_order : ℕ → List PrintUnit → Bool
in_order n [] = true
in_order n (unit.Byte b ∷ us) = in_order n us
in_order n (unit.Conv c ∷ us) = (c.slot == n) && in_order (n + 1) us

-- the width of an integer is the length of the longer of the texts of the least and the greatest number, whatever flags there are
abbrev pub IsIntegerWidth : PrintConv → ℕ → Type 0
IsIntegerWidth c n = bounds_of c.kind ≢ None → IsLongerEnd c n

-- that of a double is the length of the longest text of a finite one
abbrev pub IsDoubleWidth : PrintConv → ℕ → Type 0
IsDoubleWidth c n = is_double c.kind ≡ true → n ≡ longest_float c

abbrev pub IsWidthOf : PrintConv → ℕ → Type 0
IsWidthOf c n = IsIntegerWidth c n × IsDoubleWidth c n

abbrev pub IsNumberPart : Bool → PrintConv → List ℕ → Type 0
IsNumberPart numbered c part =
    (n : ℕ) × IsWidthOf c n × (part ≡ opening_part numbered c.slot (Some n) ++ (length_part c.kind ++ letter_part c.letter))

-- the part that reads a conversion, before these units; `width` is that of texts
abbrev pub IsPartBy : PrintLetter → Bool → Option ℕ → PrintConv → List PrintUnit → List ℕ → Type 0
IsPartBy letter.Text numbered width c rest part = part ≡ opening_part numbered c.slot width ++ text_part (stop_of rest)
IsPartBy letter.One numbered width c rest part = part ≡ opening_part numbered c.slot (Some 1) ++ codes "c"
IsPartBy _ numbered width c rest part = IsNumberPart numbered c part

abbrev pub IsPart : Bool → Option ℕ → PrintUnit → List PrintUnit → List ℕ → Type 0
IsPart numbered width (unit.Byte b) rest part = part ≡ literal_part b
IsPart numbered width (unit.Conv c) rest part = IsPartBy c.letter numbered width c rest part

abbrev pub AreParts : Bool → Option ℕ → List PrintUnit → List ℕ → Type 0
AreParts numbered width [] text = text ≡ []
AreParts numbered width (u ∷ us) text =
    (part rest : List ℕ) × (text ≡ part ++ rest) × IsPart numbered width u us part × AreParts numbered width us rest

-- the text whose parts read the units, each by a part
abbrev pub IsScanText : Option ℕ → List PrintUnit → List ℕ → Type 0
IsScanText width us text = AreParts (not (in_order 1 us)) width us text

-- the part of the first unit, without a number
abbrev pub IsFirstPart : Option ℕ → List PrintUnit → List ℕ → Type 0
IsFirstPart width [] part = part ≡ []
IsFirstPart width (u ∷ us) part = IsPart false width u us part
