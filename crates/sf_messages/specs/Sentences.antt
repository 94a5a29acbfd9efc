-- A sentence for each fault, said after its line where more is asked for.
use Rattle.std.specs.Prelude.{ℕ, Bool, false, nat_eq, nat_lt, ◌&&◌, ◌||◌, if◌then◌else◌, List, [], ◌∷◌, ◌++◌, codes}
use Rattle.sf_base.specs.declared.values.Kind.{Kind}
use Rattle.sf_base.specs.declared.values.Kind.TheVariants as kind
use Rattle.sf_records.specs.Quotes.{quoted}
use Rattle.sf_format.specs.declared.fault.FormatWhy.{FormatWhy}
use Rattle.sf_format.specs.declared.fault.FormatWhy.TheVariants as format
use Rattle.sf_pair.specs.declared.fault.PairWhy.{PairWhy}
use Rattle.sf_pair.specs.declared.fault.PairWhy.TheVariants as why

-- the letter is c, s or [, which are of wide characters after l
abbrev pub is_wide_after_l : ℕ → Bool
is_wide_after_l b = nat_eq b 99 || (nat_eq b 115 || nat_eq b 91)

-- what C or POSIX has at this byte of a format, and sf has not: at p pointers; at C, S, and where l stands before c, s or [, wide
-- characters; at L long double; at m memory; at * a value for a width; at ' groups of digits; at n a count; at every other floating point
abbrev pub left_out_sentence : ℕ → List ℕ
left_out_sentence b =
    if nat_eq b 112 then codes "pointers are not part of sf"
    else if nat_eq b 67 || (nat_eq b 83 || is_wide_after_l b) then codes "wide characters are not part of sf"
    else if nat_eq b 76 then codes "long double is not part of sf; %lf is a double"
    else if nat_eq b 109 then codes "memory of the scan's own is not part of sf"
    else if nat_eq b 42 then codes "a width or a precision among the values is not part of sf; of two formats the print format comes first"
    else if nat_eq b 39 then codes "groups of digits are not part of sf"
    else if nat_eq b 110 then codes "a count is not part of sf's print formats; of two formats the print format comes first"
    else codes "floating point is left out of profiles 1 and 2; formats have it by --profile 3"

-- ---- a byte that is no letter of a conversion

-- the letters of floating point: a A e E f F g G
abbrev pub is_float_letter : ℕ → Bool
is_float_letter b =
    (nat_eq b 97 || nat_eq b 65)
    || ((nat_eq b 101 || nat_eq b 69) || ((nat_eq b 102 || nat_eq b 70) || (nat_eq b 103 || nat_eq b 71)))

abbrev pub is_digit : ℕ → Bool
is_digit b = nat_lt 47 b && nat_lt b 58

-- digits or none, and then such a letter
abbrev pub is_float_after : List ℕ → Bool
is_float_after [] = false
is_float_after (b ∷ rest) = if is_digit b then is_float_after rest else is_float_letter b

-- the flags of a print format: - + space #
abbrev pub is_flag : ℕ → Bool
is_flag b = nat_eq b 45 || (nat_eq b 43 || (nat_eq b 32 || nat_eq b 35))

-- a ( (40) stands first
abbrev pub begins_round : List ℕ → Bool
begins_round [] = false
begins_round (b ∷ rest) = nat_eq b 40

-- what is written otherwise than with this byte, by the bytes after it: `.` (46) is a precision, which a scan format has before no
-- letter; `?` (63) stands for what may be missing, with a ( (40) and a ) (41) for a part; `!` (33) for what is read strictly, `=` (61) for
-- a column, `*` (42) for what is dropped; b (98) is base 2; D, O and U (68, 79, 85) are long integers of old; `[` (91) is a set; and flags
abbrev pub unknown_sentence : ℕ → List ℕ → List ℕ
unknown_sentence b rest =
    if nat_eq b 46 && is_float_after rest then codes "a scan format has no precision: write %5f, and not %5.2f"
    else if nat_eq b 46 then codes "a precision stands in a print format alone; of two formats the print format comes first"
    else if nat_eq b 63 && begins_round rest
    then codes "a part that may be missing stands between %?( and %), in a scan format and by --profile 3"
    else if nat_eq b 63
    then codes "what may be missing has a ? before its width, in a scan format and by --profile 3: write %?5d"
    else if nat_eq b 33
    then codes "what is read strictly has a ! before its width, in a scan format and by --profile 3: write %!5d"
    else if nat_eq b 61
    then codes "what stands in a column has a = before its width, in a scan format and by --profile 3: write %=8d"
    else if nat_eq b 40 then codes "a part that may be missing begins with %?(, with nothing between these bytes"
    else if nat_eq b 41 then codes "%) ends a part that may be missing, in a scan format and by --profile 3"
    else if nat_eq b 42 then codes "a star stands before a ?, a =, a ! and a width: write %*?=!5d"
    else if nat_eq b 98 then codes "base 2 is read and printed by --profile 2"
    else if nat_eq b 68 || (nat_eq b 79 || nat_eq b 85) then codes "the length l makes long integers: write %ld, %lo or %lu"
    else if nat_eq b 91 then codes "a set stands in a scan format alone; of two formats the print format comes first"
    else if is_flag b then codes "a flag stands first in a conversion, and in a print format alone; of two formats the print format comes first"
    else codes "no conversion of this profile is written so; %% stands for a percent sign"

-- what stands before a sentence on this byte of a format: the percent and the byte, of wide characters with their l, as in `%f: `;
-- of a byte that is no letter of a conversion that byte, between quotes
abbrev pub typed_text : FormatWhy → ℕ → List ℕ
typed_text format.LeftOut b = codes "%" ++ ((if is_wide_after_l b then codes "l" else []) ++ (b ∷ codes ": "))
typed_text format.UnknownLetter b = quoted (b ∷ []) ++ codes ": "
typed_text why b = []

-- why a format is refused, by the byte where that was found, and those after it
abbrev pub why_sentence : FormatWhy → ℕ → List ℕ → List ℕ
why_sentence format.Truncated b rest = codes "the format ends inside a conversion; %% stands for a percent sign"
why_sentence format.ZeroWidth b rest = codes "a conversion of width 0 takes nothing"
why_sentence format.TooWide b rest = codes "a width is at most 65535"
why_sentence format.UnknownLetter b rest = unknown_sentence b rest
why_sentence format.LeftOut b rest = left_out_sentence b
why_sentence format.BadLength b rest = codes "this letter has no such length"
why_sentence format.OpenSet b rest = codes "no ] closes the set"
why_sentence format.BackwardRange b rest = codes "the range runs backward"
why_sentence format.BadCount b rest = codes "%n has neither a * nor a width"
why_sentence format.MixedNumbering b rest = codes "either all conversions have a number with $, or none has"
why_sentence format.BadNumber b rest = codes "a number is 1 to 32, and what is dropped has none"
why_sentence format.NumberTwice b rest = codes "this number stands twice"
why_sentence format.NumberGap b rest = codes "the numbers leave a gap"
why_sentence format.Nul b rest = codes "a format has no NUL"
why_sentence format.FormatTooLong b rest = codes "a format has at most 4096 bytes"
why_sentence format.TooManyDestinations b rest = codes "a format has at most 32 values"
why_sentence format.BadFlag b rest = codes "this letter has no such flag or precision"
why_sentence format.PrecisionTooLarge b rest = codes "a precision is at most 255"
why_sentence format.NoMemory b rest = codes "memory was refused"
why_sentence format.BadMark b rest = codes "a = has a width after it, and %c and %n have no =; %c, %[ and %n have no !"
why_sentence format.BadGroup b rest =
    codes "a group is %?( and %) around conversions or bytes, none within another; first in it is no white space, no %n and no conversion with a ?"

-- why a pair is refused
abbrev pub pair_sentence : PairWhy → List ℕ
pair_sentence why.NotAligned = codes "what stands here is not what the other format has in its place"
pair_sentence why.KindDiffers = codes "the kinds or the letters of the two conversions differ"
pair_sentence why.NumberDiffers = codes "the two conversions are of different values"
pair_sentence why.NoWidth = codes "a conversion that is read back needs a width"
pair_sentence why.TooNarrow = codes "the width is less than the shortest text that is written"
pair_sentence why.RunsOn = codes "what is written next could be read by this directive too: write a byte between them at which it stops"
pair_sentence why.OpenEnd = codes "nothing is written after this, so what follows could be read as more of it: end the print format with \\n and the scan format with %*1[\\n]"
pair_sentence why.LeadingZero = codes "%i reads a leading zero as octal"
pair_sentence why.NotWritten = codes "nothing is written for %n"
pair_sentence why.MayBeMissing = codes "what may be missing is not written: leave out the ?, or the %?( and %)"
pair_sentence why.BadFlagHere = codes "what this flag, width or precision writes is not read back"
pair_sentence why.NoValues = codes "a pair has at least one value"
pair_sentence why.BadMark = codes "the two widths differ at a conversion with =, or what this flag, width or letter writes is not read by one with !"

-- why a word's escapes are refused
abbrev pub escape_sentence : List ℕ
escape_sentence = codes "after a backslash stands one of \\ n t v f r, or x and two hexadecimal digits"

-- what stands before it, by what stands after the backslash: `\d is no escape: `, where the first byte is printable ASCII
abbrev pub typed_escape : List ℕ → List ℕ
typed_escape [] = []
typed_escape (b ∷ rest) = if nat_lt 32 b && nat_lt b 127 then 92 ∷ b ∷ codes " is no escape: " else []

-- what is done about white space that a record begins with
abbrev pub left_white_sentence : List ℕ
left_white_sentence =
    codes
    "the record begins with white space: a blank at the format's front passes over it, and %*1[\\n] at its end takes the newline after a record"

-- what is done about white space that the first record, or a line, begins with
abbrev pub white_first_sentence : List ℕ
white_first_sentence = codes "white space stands in front, which only numbers and %s pass over: a blank at the format's front does, too"

-- what is done about a newline that was a record of its own
abbrev pub lone_newline_sentence : List ℕ
lone_newline_sentence =
    codes "the record is the newline after the last one: a blank at the format's front passes over it, and %*1[\\n] at its end takes it"

-- what is done about the newline that a record began with
abbrev pub newline_taken_sentence : List ℕ
newline_taken_sentence =
    codes "the record begins with the newline after the last one: a blank at the format's front passes over it, and %*1[\\n] at its end takes it"

-- what is done about a newline within a record
abbrev pub over_newline_sentence : List ℕ
over_newline_sentence = codes "the record goes over a newline: sf scan --lines ends each record with its line"

-- what so many values are called
abbrev pub values_text : ℕ → List ℕ
values_text count = if nat_eq count 1 then codes " value" else codes " values"

-- what is said of a word that stands for no value of a kind, before the numbers of that kind
abbrev pub no_value_text : Kind → List ℕ
no_value_text kind.F32 = codes " is no floating-point number in the range of its kind"
no_value_text kind.F64 = codes " is no floating-point number in the range of its kind"
no_value_text _ = codes " is no decimal integer from "

-- the numbers of a kind; a text and a float have none
abbrev pub range_text : Kind → List ℕ
range_text kind.I8 = codes "-128 to 127"
range_text kind.I16 = codes "-32768 to 32767"
range_text kind.I32 = codes "-2147483648 to 2147483647"
range_text kind.I64 = codes "-9223372036854775808 to 9223372036854775807"
range_text kind.U8 = codes "0 to 255"
range_text kind.U16 = codes "0 to 65535"
range_text kind.U32 = codes "0 to 4294967295"
range_text kind.U64 = codes "0 to 18446744073709551615"
range_text kind.Text = []
range_text kind.F32 = []
range_text kind.F64 = []

-- the numbers of a kind that a scan takes: of a float those that don't round to an infinity
abbrev pub wanted_text : Kind → List ℕ
wanted_text kind.F32 = codes "-3.4028235e38 to 3.4028235e38"
wanted_text kind.F64 = codes "-1.7976931348623157e308 to 1.7976931348623157e308"
wanted_text kind = range_text kind

-- what is done about a record that took nothing
abbrev pub stalled_sentence : List ℕ
stalled_sentence = codes "the format took no byte, so that the next record would begin where this one did"

-- what is done about a format of which a shell took a part
abbrev pub shell_sentence : List ℕ
shell_sentence = codes "a shell takes $ and the letters after it out of double quotes: single quotes keep them"

-- what is said of a print format that stands alone, after why nothing reads it back
abbrev pub one_word_sentence : List ℕ
one_word_sentence =
    codes "of a print format alone, the scan format that reads it back is written: sf check PRINT SCAN judges two"

-- which option makes up for a width that a text of a print format alone lacks
abbrev pub width_option_text : List ℕ
width_option_text = codes ": --width N says how many bytes the texts of %s have at most"

-- what so many names are called
abbrev pub names_text : ℕ → List ℕ
names_text count = if nat_eq count 1 then codes " name" else codes " names"

-- what is done about a byte order mark
abbrev pub byte_mark_sentence : List ℕ
byte_mark_sentence = codes "a byte order mark stands there: sed '1s/^\\xef\\xbb\\xbf//' takes it away"

-- what is done about UTF-16
abbrev pub wide_text_sentence : List ℕ
wide_text_sentence = codes "the input seems to be UTF-16: iconv -f UTF-16 -t UTF-8 makes UTF-8 of it"

-- what is done about a carriage return at a line's end
abbrev pub carriage_sentence : List ℕ
carriage_sentence = codes "the line ends with a carriage return: a space at the format's end takes it"

-- what is written for a class of POSIX
abbrev pub class_sentence : List ℕ
class_sentence = codes "classes as [:digit:] are not part of scanf: write %[0-9]"

-- what stands before the set that stops where %s doesn't
abbrev pub text_front : List ℕ
text_front = codes "%s takes all up to white space: a text that ends before the next byte of the format is "

-- how values are taken as they stand
abbrev pub raw_sentence : List ℕ
raw_sentence = codes "with --raw values are taken as they stand"

-- the directive that reads values of a kind
abbrev pub read_by_text : Kind → List ℕ
read_by_text kind.I8 = codes "%hhd"
read_by_text kind.I16 = codes "%hd"
read_by_text kind.I32 = codes "%d"
read_by_text kind.I64 = codes "%ld"
read_by_text kind.U8 = codes "%hhu"
read_by_text kind.U16 = codes "%hu"
read_by_text kind.U32 = codes "%u"
read_by_text kind.U64 = codes "%lu"
read_by_text kind.Text = codes "%s"
read_by_text kind.F32 = codes "%f"
read_by_text kind.F64 = codes "%lf"

-- the conversion that prints values of a kind: of both floats, %f
abbrev pub printed_by_text : Kind → List ℕ
printed_by_text kind.F64 = codes "%f"
printed_by_text kind = read_by_text kind
