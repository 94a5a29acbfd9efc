-- The units of a print format, cut into one group for each directive of a scan format.
use Rattle.std.specs.Prelude.{ℕ, ◌≡◌, ◌≢◌, Bool, true, false, ◌==◌, ◌&&◌, ◌||◌, not, if◌then◌else◌, nat_lt, List, [], ◌∷◌, ◌++◌, length}
use Rattle.std.specs.Prelude.{Option, Some, None, unwrap_or, is_none, is_some}
use Rattle.std.specs.List.{list_any}
use Rattle.sf_base.specs.Bytes.{is_white}
use Rattle.sf_base.specs.Sets.{has_byte}
use Rattle.sf_base.specs.declared.rules.Rule.{Rule}
use Rattle.sf_base.specs.Rules.{first_reason}
use Rattle.sf_format.specs.declared.unit.FloatStyle.TheVariants as style
use Rattle.sf_format.specs.declared.unit.PrintLetter.{PrintLetter}
use Rattle.sf_format.specs.declared.unit.PrintLetter.TheVariants as letter
use Rattle.sf_format.specs.declared.unit.PrintConv.{PrintConv}
use Rattle.sf_format.specs.declared.unit.Unit.{Unit as PrintUnit}
use Rattle.sf_format.specs.declared.unit.Unit.TheVariants as unit
use Rattle.sf_format.specs.declared.directive.Base.{Base}
use Rattle.sf_format.specs.declared.directive.Base.TheVariants.{Dec, Oct, Hex, Bin, Auto, AutoBin}
use Rattle.sf_format.specs.declared.directive.Lead.{Lead}
use Rattle.sf_format.specs.declared.directive.Shape.{Shape}
use Rattle.sf_format.specs.declared.directive.Shape.TheVariants as shape
use Rattle.sf_format.specs.declared.directive.Conversion.{Conversion}
use Rattle.sf_format.specs.declared.directive.Directive.{Directive}
use Rattle.sf_format.specs.declared.directive.Directive.TheVariants as directive
use Rattle.sf_format.specs.Leads.{has_minus, is_strict}
use Rattle.sf_print.specs.Printed.{same_kind}
use Rattle.sf_print.specs.texts.Text.{pads_with_zeros, least_digits}
use Rattle.sf_pair.specs.declared.fault.PairWhy.{PairWhy}
use Rattle.sf_pair.specs.declared.fault.PairWhy.TheVariants as why
use Rattle.sf_print.specs.texts.Visible.{least}
use Rattle.sf_pair.specs.conversions.Reals.{zero_seen}
use Rattle.sf_pair.specs.conversions.Neighbours.{Bytes, no_byte, any_byte, only, meet, fills_with_zeros, first_by, reads, is_auto_base}
use Rattle.sf_pair.specs.conversions.Neighbours.{stop_set}

-- ---- one conversion of each

abbrev pub is_integer : Shape → Bool
is_integer (shape.Int numeral) = true
is_integer _ = false

abbrev pub is_number : Shape → Bool
is_number (shape.Int numeral) = true
is_number (shape.Float lead) = true
is_number _ = false

abbrev pub is_text : Shape → Bool
is_text (shape.Text lead) = true
is_text _ = false

abbrev pub is_chars : Shape → Bool
is_chars shape.Chars = true
is_chars _ = false

abbrev pub is_auto : Shape → Bool
is_auto (shape.Int numeral) = is_auto_base numeral.base
is_auto _ = false

abbrev pub is_count : Shape → Bool
is_count shape.Count = true
is_count _ = false

-- no pair has it: it isn't written, or it may be missing
abbrev pub is_left_out : Conversion → Bool
is_left_out s = is_count s.shape || s.optional

abbrev pub is_one : PrintLetter → Bool
is_one letter.One = true
is_one _ = false

abbrev pub bases_pair : PrintLetter → Base → Bool
bases_pair letter.Signed Dec = true
bases_pair letter.Signed Auto = true
bases_pair letter.Signed AutoBin = true
bases_pair letter.Unsigned Dec = true
bases_pair letter.Octal Oct = true
bases_pair letter.HexLower Hex = true
bases_pair letter.HexUpper Hex = true
bases_pair letter.Binary Bin = true
bases_pair _ _ = false

-- `d i` write a minus, and pair with what reads one
abbrev pub signs_pair : PrintLetter → Lead → Bool
signs_pair letter.Signed lead = has_minus lead
signs_pair _ lead = true

-- `d i` with `d i`, `u` with `u`, `o` with `o`, `x X` with `x X`, `b` with `b`, `s` with `s`, `[` or `c`, `c` with `c`,
-- and each letter of a float with each, with `!` or without; the kinds distinguish `d` from `u`, and a scan's f32 from its f64
abbrev pub letters_pair : PrintLetter → Shape → Bool
letters_pair l (shape.Int numeral) = bases_pair l numeral.base && signs_pair l numeral.lead
letters_pair letter.Text (shape.Text lead) = true
letters_pair letter.Text (shape.Set members) = true
letters_pair letter.Text shape.Chars = true
letters_pair letter.One shape.Chars = true
letters_pair (letter.Float l upper) (shape.Float lead) = true
letters_pair _ _ = false

-- the scan's width; a conversion without one is refused
abbrev pub width_of : Conversion → ℕ
width_of s = unwrap_or s.width 1

abbrev pub is_hex_float : PrintLetter → Bool
is_hex_float (letter.Float style.Hexadecimal upper) = true
is_hex_float _ = false

-- it may print what no conversion with `!` reads: a plus, a blank or a prefix
abbrev pub adds_to_number : PrintConv → Bool
adds_to_number c = c.plus || c.blank || c.alt || is_hex_float c.letter

-- or what fills a width: in a column of numbers anything but zeros, in one of texts nothing, elsewhere anything
abbrev pub fills_badly : PrintConv → Conversion → Bool
fills_badly c s = if s.column then not (is_text s.shape) && not (fills_with_zeros c) else nat_lt 0 c.width

abbrev pub is_width : ℕ → Option ℕ → Bool
is_width n None = false
is_width n (Some w) = w == n

-- a column is as wide as what is printed for it
abbrev pub is_other_width : PrintConv → Conversion → Bool
is_other_width c s = s.column && not (is_width c.width s.width)

abbrev pub bad_mark : PrintConv → Conversion → Bool
bad_mark c s = is_other_width c s || (is_strict s.shape && (adds_to_number c || fills_badly c s))

abbrev pub kinds_differ : PrintConv → Conversion → Bool
kinds_differ c s = not (same_kind c.kind s.kind && letters_pair c.letter s.shape)

abbrev pub numbers_differ : PrintConv → Conversion → Bool
numbers_differ c s = not (unwrap_or s.slot 0 == c.slot)

-- flags, widths and precisions that the scan can't undo
abbrev pub bad_flag : PrintConv → Conversion → Bool
bad_flag c s = c.minus
    || (is_integer s.shape && least_digits c == 0)
    || (not (is_number s.shape) && is_some c.precision)
    || (not (is_number s.shape) && not (is_text s.shape) && nat_lt 0 c.width)
    || (is_one c.letter && not (width_of s == 1))

abbrev pub has_no_width : Conversion → Bool
has_no_width s = not (is_chars s.shape) && is_none s.width

-- the text of 0 without the blanks before it, the shortest that the shape reads
abbrev pub least_by : Shape → PrintConv → List ℕ
least_by (shape.Float lead) c = zero_seen c
least_by _ c = least c

abbrev pub too_narrow : PrintConv → Conversion → Bool
too_narrow c s = is_number s.shape && nat_lt (width_of s) (length (least_by s.shape c))

-- a zero before its digits makes a number octal
abbrev pub leading_zero : PrintConv → Conversion → Bool
leading_zero c s = is_auto s.shape && (pads_with_zeros c || nat_lt 1 (least_digits c))

-- why the scan's conversion can't read what the other prints: the first of these rules that applies. Where a column begins and ends
-- doesn't depend on the text, and each value is tried: so no flag and no width is refused of one but by its mark.
abbrev pub rule : PairWhy → Bool → Rule PairWhy
rule reason applies = record { why = reason; applies = applies }

abbrev pub pairing_fault : PrintConv → Conversion → Option PairWhy
pairing_fault c s = first_reason (
    rule why.BadMark (bad_mark c s)
    ∷ rule why.KindDiffers (kinds_differ c s)
    ∷ rule why.NumberDiffers (numbers_differ c s)
    ∷ rule why.BadFlagHere (not s.column && bad_flag c s)
    ∷ rule why.NoWidth (not s.column && has_no_width s)
    ∷ rule why.TooNarrow (not s.column && too_narrow c s)
    ∷ rule why.LeadingZero (leading_zero c s)
    ∷ [])

-- the item has as many bytes as the width, whatever the value
abbrev pub always_full : PrintConv → Conversion → Bool
always_full c s = is_chars s.shape || (if is_number s.shape then length (least_by s.shape c) == width_of s else width_of s == 1)

-- what follows is no matter: also a column ends by its width alone
abbrev pub is_closed : PrintConv → Conversion → Bool
is_closed c s = s.column || always_full c s

abbrev pub follow_fault : Bytes → List PrintUnit → Conversion → Option PairWhy
follow_fault stop [] read = Some why.OpenEnd
follow_fault stop (u ∷ us) read = if meet (first_by u read) stop then Some why.RunsOn else None

-- why the item doesn't end with the text, where these units come next and are read so
abbrev pub closing_fault : PrintConv → Conversion → List PrintUnit → Conversion → Option PairWhy
closing_fault c s rest read = if is_closed c s then None else follow_fault (stop_set s.shape c) rest read

-- ---- white space

abbrev pub starts_with_space : List PrintUnit → Bool
starts_with_space (unit.Byte b ∷ us) = is_white b
starts_with_space _ = false

-- white space is no part of what is skipped where the next item may have it, or skips none
abbrev pub shape_keeps_space : Shape → Bool
shape_keeps_space (shape.Set members) = true
shape_keeps_space shape.Chars = true
shape_keeps_space read = is_strict read

-- nor where a column begins
abbrev pub keeps_space : Conversion → Bool
keeps_space read = read.column || shape_keeps_space read.shape

abbrev pub space_fault : List PrintUnit → Conversion → Option PairWhy
space_fault [] read = Some why.OpenEnd
space_fault (u ∷ us) read = if keeps_space read && meet (first_by u read) is_white then Some why.RunsOn else None

-- ---- suppressed conversions of one byte

abbrev pub members_of : Shape → Bytes
members_of shape.Chars = any_byte
members_of (shape.Set members) = has_byte members
members_of _ = no_byte

-- the literals that a suppressed conversion takes: `%*c` each, `%*1[` a member, and one that takes a column none
abbrev pub suppressed_by : Conversion → Bytes
suppressed_by s = if not s.column && is_width 1 s.width then members_of s.shape else no_byte

-- the literals that a directive takes, but for white space
abbrev pub literals_of : Directive → Bytes
literals_of (directive.Byte b) = only b
literals_of directive.Percent = only 37
literals_of (directive.Conv s) = suppressed_by s
literals_of directive.Space = no_byte
literals_of (directive.Opens o) = no_byte

-- ---- groups

-- the literal of a byte of the set
abbrev pub IsLiteral : Bytes → List PrintUnit → Type 0
IsLiteral wanted group = (b : ℕ) × (group ≡ unit.Byte b ∷ []) × (wanted b ≡ true)

abbrev pub AreSpace : List PrintUnit → Type 0
AreSpace [] = Unit {0}
AreSpace (unit.Byte b ∷ us) = (is_white b ≡ true) × AreSpace us
AreSpace (unit.Conv c ∷ us) = ⊥

-- a run of white space, and then something else
abbrev pub IsSpaceRun : List PrintUnit → List PrintUnit → Option Directive → Type 0
IsSpaceRun group rest next = (group ≢ []) × AreSpace group × (starts_with_space rest ≡ false) × (space_fault rest (reads next) ≡ None)

-- one conversion that the scan's conversion reads back, closed by what follows
abbrev pub IsPaired : Conversion → List PrintUnit → List PrintUnit → Option Directive → Type 0
IsPaired s group rest next = (c : PrintConv) × (group ≡ unit.Conv c ∷ []) × (pairing_fault c s ≡ None)
    × (closing_fault c s rest (reads next) ≡ None)

abbrev pub IsConversionGroup : Bool → Bool → Conversion → List PrintUnit → List PrintUnit → Option Directive → Type 0
IsConversionGroup true assigned s group rest next = ⊥
IsConversionGroup false true s group rest next = IsPaired s group rest next
IsConversionGroup false false s group rest next = IsLiteral (suppressed_by s) group

-- the directive's group, where these units and this directive come next; one that may be missing has none
abbrev pub IsGroup : Directive → List PrintUnit → List PrintUnit → Option Directive → Type 0
IsGroup directive.Space group rest next = IsSpaceRun group rest next
IsGroup (directive.Byte b) group rest next = IsLiteral (only b) group
IsGroup directive.Percent group rest next = IsLiteral (only 37) group
IsGroup (directive.Conv s) group rest next = IsConversionGroup (is_left_out s) (is_some s.slot) s group rest next
IsGroup (directive.Opens o) group rest next = ⊥

abbrev pub next_of : List Directive → Option Directive
next_of [] = None
next_of (d ∷ ds) = Some d

abbrev pub AreCut : List Directive → List PrintUnit → Type 0
AreCut [] us = us ≡ []
AreCut (d ∷ ds) us = (group : List PrintUnit) × (rest : List PrintUnit) × (us ≡ group ++ rest) × IsGroup d group rest (next_of ds)
    × AreCut ds rest

abbrev pub assigns : Directive → Bool
assigns (directive.Conv s) = is_some s.slot && not (is_count s.shape)
assigns _ = false

-- the print units are cut into consecutive groups, one for each directive, and some directive assigns a conversion
pub record IsAligned (us : List PrintUnit) (ds : List Directive) : Type 0 where
  pub cut : AreCut ds us
  pub assigned : list_any assigns ds ≡ true
