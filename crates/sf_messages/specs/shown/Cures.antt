-- What to write in place of a directive without a width.
use Rattle.std.specs.Prelude.{ℕ, Bool, not, ◌&&◌, if◌then◌else◌, List, [], ◌++◌, is_some, codes}
use Rattle.std.specs.Fmt.{decimal}
use Rattle.sf_base.specs.declared.values.Kind.{Kind}
use Rattle.sf_base.specs.declared.values.Kind.TheVariants as kind
use Rattle.sf_format.specs.declared.unit.PrintConv.{PrintConv}
use Rattle.sf_format.specs.declared.unit.PrintLetter.{PrintLetter}
use Rattle.sf_format.specs.declared.unit.PrintLetter.TheVariants.{Signed, Unsigned, Octal, HexLower, HexUpper, Binary, Text, One, Float}
use Rattle.sf_format.specs.Units.{is_double}
use Rattle.sf_pair.specs.conversions.Widths.{longest_float}

-- the conversion prints the digits of a number that it needs, and a sign or none: it has neither `-`, `#` nor `0`, and no precision
abbrev pub is_bare : PrintConv → Bool
is_bare c = not c.minus && (not c.alt && (not c.zero && not (is_some c.precision)))

-- the directive that reads such a conversion: its width is the length of the longest number of the kind, as -2147483648 has 11 bytes
-- (C11 7.21.6.2p3; the kinds are those of LP64)
abbrev pub reading_text : PrintLetter → Kind → List ℕ
reading_text Signed kind.I8 = codes "%4hhd"
reading_text Signed kind.I16 = codes "%6hd"
reading_text Signed kind.I32 = codes "%11d"
reading_text Signed kind.I64 = codes "%20ld"
reading_text Unsigned kind.U8 = codes "%3hhu"
reading_text Unsigned kind.U16 = codes "%5hu"
reading_text Unsigned kind.U32 = codes "%10u"
reading_text Unsigned kind.U64 = codes "%20lu"
reading_text Octal kind.U8 = codes "%3hho"
reading_text Octal kind.U16 = codes "%6ho"
reading_text Octal kind.U32 = codes "%11o"
reading_text Octal kind.U64 = codes "%22lo"
reading_text HexLower kind.U8 = codes "%2hhx"
reading_text HexLower kind.U16 = codes "%4hx"
reading_text HexLower kind.U32 = codes "%8x"
reading_text HexLower kind.U64 = codes "%16lx"
reading_text HexUpper kind.U8 = codes "%2hhx"
reading_text HexUpper kind.U16 = codes "%4hx"
reading_text HexUpper kind.U32 = codes "%8x"
reading_text HexUpper kind.U64 = codes "%16lx"
reading_text Binary kind.U8 = codes "%8hhb"
reading_text Binary kind.U16 = codes "%16hb"
reading_text Binary kind.U32 = codes "%32b"
reading_text Binary kind.U64 = codes "%64lb"
reading_text _ _ = []

-- what is said after that a width is missing: of an integer the directive, of a text what its width has to be
abbrev pub cure_text : PrintLetter → List ℕ → List ℕ
cure_text Text directive = codes ": write the most bytes of the text after the %"
cure_text One directive = []
cure_text (Float style upper) directive = []
cure_text _ directive = codes ": write " ++ directive

-- the directive that reads a double: its width is the length of the longest text of a finite one
abbrev pub double_cure : ℕ → List ℕ
double_cure width = codes ": write %" ++ (decimal width ++ codes "lf")

abbrev pub width_cure : PrintConv → List ℕ
width_cure c =
    if is_double c.kind then double_cure (longest_float c)
    else (if is_bare c then cure_text c.letter (reading_text c.letter c.kind) else [])
