-- The lines that show a scan format.
use Rattle.std.specs.Prelude.{ℕ, zero, suc, ◌+◌, ◌-◌, ◌&&◌, ◌||◌, nat_lt, Bool, true, false, List, [], ◌∷◌, ◌++◌, length, Option, Some}
use Rattle.std.specs.Prelude.{None, codes, is_none, slice_get, if◌then◌else◌}
use Rattle.std.specs.Option.{option_map_or}
use Rattle.std.specs.Fmt.{decimal}
use Rattle.sf_base.specs.declared.values.Kind.{Kind}
use Rattle.sf_base.specs.declared.values.Kind.TheVariants as kind
use Rattle.sf_base.specs.Sets.{has_byte, count_below}
use Rattle.sf_format.specs.declared.directive.Base.{Base}
use Rattle.sf_format.specs.declared.directive.Base.TheVariants.{Dec, Oct, Hex, Bin, Auto, AutoBin}
use Rattle.sf_format.specs.declared.directive.Shape.{Shape}
use Rattle.sf_format.specs.declared.directive.Shape.TheVariants as shape
use Rattle.sf_format.specs.declared.directive.Conversion.{Conversion}
use Rattle.sf_format.specs.declared.directive.Directive.{Directive}
use Rattle.sf_format.specs.declared.directive.Directive.TheVariants.{Space, Byte, Percent, Conv, Opens}
use Rattle.sf_format.specs.declared.directive.Literal.{Literal}
use Rattle.sf_format.specs.declared.directive.Literal.TheVariants as literal
use Rattle.sf_format.specs.Leads.{is_strict}
use Rattle.sf_format.specs.Proper.{destinations_of, is_opener, more_of}
use Rattle.sf_arguments.specs.Names.{kind_text}
use Rattle.sf_forms.specs.Quotes.{quoted}

-- ---- directives

-- decimal digits are %d of a signed kind, and %u of another
abbrev pub decimal_letter : Kind → List ℕ
decimal_letter kind.I8 = codes "d"
decimal_letter kind.I16 = codes "d"
decimal_letter kind.I32 = codes "d"
decimal_letter kind.I64 = codes "d"
decimal_letter _ = codes "u"

abbrev pub base_letter : Base → Kind → List ℕ
base_letter Dec kind = decimal_letter kind
base_letter Oct kind = codes "o"
base_letter Hex kind = codes "x"
base_letter Bin kind = codes "b"
base_letter Auto kind = codes "i"
base_letter AutoBin kind = codes "i"

abbrev pub letter_text : Shape → Kind → List ℕ
letter_text (shape.Int numeral) kind = base_letter numeral.base kind
letter_text (shape.Text lead) kind = codes "s"
letter_text (shape.Set members) kind = codes "["
letter_text shape.Chars kind = codes "c"
letter_text (shape.Float lead) kind = codes "f"
letter_text shape.Count kind = codes "n"

-- a number, or - where there is none
abbrev pub optional_text : Option ℕ → List ℕ
optional_text None = codes "-"
optional_text (Some n) = decimal n

-- after [, how many members the set has
abbrev pub members_text : Shape → List ℕ
members_text (shape.Set members) = codes " members " ++ decimal (count_below (has_byte members) 256)
members_text _ = []

-- after all, whether the conversion has a ?
abbrev pub missing_mark : Bool → List ℕ
missing_mark true = codes " optional"
missing_mark false = []

-- whether it takes a column
abbrev pub column_mark : Bool → List ℕ
column_mark true = codes " column"
column_mark false = []

-- and then whether it has a !
abbrev pub strict_mark : Bool → List ℕ
strict_mark true = codes " strict"
strict_mark false = []

abbrev pub marks_text : Conversion → List ℕ
marks_text c = missing_mark (c.optional && is_none c.opens) ++ (column_mark c.column ++ strict_mark (is_strict c.shape))

-- the letter, and the kind
abbrev pub head_text : Conversion → List ℕ
head_text c = letter_text c.shape c.kind ++ (codes " " ++ kind_text c.kind)

abbrev pub field_text : List ℕ → Option ℕ → List ℕ
field_text label number = label ++ optional_text number

abbrev pub conversion_text : Conversion → List ℕ
conversion_text c = head_text c ++ (field_text (codes " width ") c.width
    ++ (field_text (codes " slot ") c.slot ++ (members_text c.shape ++ marks_text c)))

-- a byte that stands there, or a percent sign
abbrev pub literal_text : Literal → List ℕ
literal_text (literal.Byte b) = codes "byte " ++ quoted (b ∷ [])
literal_text literal.Percent = codes "percent"

abbrev pub directive_text : Directive → List ℕ
directive_text Space = codes "space"
directive_text (Byte b) = literal_text (literal.Byte b)
directive_text Percent = literal_text literal.Percent
directive_text (Conv c) = conversion_text c
directive_text (Opens o) = literal_text o.literal

-- ---- lines

-- of a directive in the group with this number
abbrev pub group_mark : Option ℕ → List ℕ
group_mark None = []
group_mark (Some g) = codes " group " ++ decimal g

abbrev pub line_text : ℕ → Directive → Option ℕ → List ℕ
line_text k d group = decimal k ++ (codes " " ++ (directive_text d ++ (group_mark group ++ 10 ∷ [])))

-- how many groups have begun with this directive, where so many had before it
abbrev pub begun_with : Directive → ℕ → ℕ
begun_with d begun = if is_opener d then begun + 1 else begun

-- how many directives of its group come after it, where it is one of so many that are left of the group before it
abbrev pub left_after : Directive → ℕ → ℕ
left_after d left = if is_opener d then more_of d else left - 1

-- the group of the directive, if it is in one
abbrev pub group_of : Directive → ℕ → ℕ → Option ℕ
group_of d begun left = if is_opener d || nat_lt 0 left then Some (begun_with d begun) else None

-- the group of the directive at this place, counted from 0, if it is in one, where so many groups have begun, and so many directives are
-- left of the last
abbrev pub group_from : ℕ → ℕ → List Directive → ℕ → Option ℕ
group_from begun left [] place = None
group_from begun left (d ∷ ds) zero = group_of d begun left
group_from begun left (d ∷ ds) (suc n) = group_from (begun_with d begun) (left_after d left) ds n

-- how the directive with this number is shown, if there is one, and its group
abbrev pub shown_at : List Directive → ℕ → List ℕ
shown_at ds number =
    option_map_or directive_text (slice_get ds (number - 1)) [] ++ group_mark (group_from 0 0 ds (number - 1))

-- the directives, each with its number, from this one on, where so many groups have begun, and so many directives are left of the last
abbrev pub directive_lines : ℕ → ℕ → ℕ → List Directive → List ℕ
directive_lines k begun left [] = []
directive_lines k begun left (d ∷ ds) =
    line_text k d (group_of d begun left) ++ directive_lines (k + 1) (begun_with d begun) (left_after d left) ds

abbrev pub summary_text : ℕ → Option ℕ → List ℕ
summary_text destinations sum =
    field_text (codes "destinations ") (Some destinations) ++ (field_text (codes ", width sum ") sum ++ 10 ∷ [])

abbrev pub show_text : List Directive → Option ℕ → List ℕ
show_text ds sum = directive_lines 1 0 0 ds ++ summary_text (length (destinations_of ds)) sum
