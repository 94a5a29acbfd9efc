-- The parts of two formats that face each other where a pair is refused.
use Rattle.std.specs.Prelude.{ℕ, ◌-◌, Bool, if◌then◌else◌, nat_eq, List, [], ◌∷◌, ◌++◌, drop, take, Option, Some, None, codes}
use Rattle.sf_format.specs.declared.directive.Directive.{Directive}
use Rattle.sf_format.specs.declared.directive.Directive.TheVariants as directive
use Rattle.sf_format.specs.declared.unit.PrintConv.{PrintConv}
use Rattle.sf_format.specs.declared.unit.PrintLetter.{PrintLetter}
use Rattle.sf_format.specs.declared.unit.PrintLetter.TheVariants.{Signed, Unsigned, Octal, HexLower, HexUpper, Binary, Text, One, Float}
use Rattle.sf_format.specs.declared.unit.Unit.{Unit as PrintUnit}
use Rattle.sf_format.specs.declared.unit.Unit.TheVariants.{Byte, Conv}
use Rattle.sf_format.specs.PrintLetters.{float_bytes}
use Rattle.sf_pair.specs.Walk.{after_space}
use Rattle.sf_arguments.specs.Names.{kind_text}
use Rattle.sf_messages.specs.shown.Shown.{field_text}
use Rattle.sf_records.specs.Quotes.{quoted}

-- ---- where the walk over both stands

-- the units after those that a directive takes: at white space the literals of white space that stand first, else one
abbrev pub behind : Directive → List PrintUnit → List PrintUnit
behind directive.Space us = after_space us
behind _ us = drop 1 us

-- the units that are left after these directives
abbrev pub left_behind : List Directive → List PrintUnit → List PrintUnit
left_behind [] us = us
left_behind (d ∷ ds) us = left_behind ds (behind d us)

-- those that are left where the directive with this number, from 1, stands
abbrev pub faced : List Directive → List PrintUnit → ℕ → List PrintUnit
faced ds us number = left_behind (take (number - 1) ds) us

-- ---- how a unit is shown

abbrev pub print_letter_text : PrintLetter → List ℕ
print_letter_text Signed = codes "d"
print_letter_text Unsigned = codes "u"
print_letter_text Octal = codes "o"
print_letter_text HexLower = codes "x"
print_letter_text HexUpper = codes "X"
print_letter_text Binary = codes "b"
print_letter_text Text = codes "s"
print_letter_text One = codes "c"
print_letter_text (Float style upper) = float_bytes style upper

-- the flag, where it is set
abbrev pub flag_text : Bool → List ℕ → List ℕ
flag_text set flag = if set then flag else []

-- the flags that are set, in the order of C11 7.21.6.1p6
abbrev pub flags_text : PrintConv → List ℕ
flags_text c = flag_text c.minus (codes "-") ++ (flag_text c.plus
    (codes "+") ++ (flag_text c.blank (codes " ") ++ (flag_text c.alt (codes "#") ++ flag_text c.zero (codes "0"))))

-- a width of 0 is none
abbrev pub width_given : ℕ → Option ℕ
width_given width = if nat_eq width 0 then None else Some width

-- the letter, the kind and the flags
abbrev pub print_head_text : PrintConv → List ℕ
print_head_text c = print_letter_text c.letter ++ (codes " " ++ (kind_text c.kind ++ (codes " flags " ++ quoted (flags_text c))))

abbrev pub print_conv_text : PrintConv → List ℕ
print_conv_text c =
    print_head_text c
    ++ (field_text (codes " width ") (width_given c.width) ++ (field_text (codes " precision ") c.precision ++ field_text (codes " slot ")
    (Some c.slot)))

abbrev pub unit_text : PrintUnit → List ℕ
unit_text (Byte b) = codes "byte " ++ quoted (b ∷ [])
unit_text (Conv c) = print_conv_text c
