-- A scan format laid out: a row for each directive, and what its runs count.
use Rattle.std.specs.Prelude.{ℕ, ◌^◌, ◌-◌, ◌&&◌, Bool, true, false, List, Option, Some, None, is_some, unwrap_or}
use Rattle.std.specs.Prelude.{if◌then◌else◌}
use Rattle.std.specs.List.{count_by}
use Rattle.sf_base.specs.declared.values.Kind.{Kind}
use Rattle.sf_base.specs.declared.values.Kind.TheVariants as kinds
use Rattle.sf_base.specs.Kinds.{bounds_of}
use Rattle.sf_base.specs.Sets.{lone_lack}
use Rattle.sf_format.specs.declared.directive.Base.{Base}
use Rattle.sf_format.specs.declared.directive.Base.TheVariants.{Dec, Oct, Hex, Auto, AutoBin}
use Rattle.sf_format.specs.declared.directive.Lead.{Lead}
use Rattle.sf_format.specs.declared.directive.Lead.TheVariants.{Any, Minus, Nothing}
use Rattle.sf_format.specs.declared.directive.Numeral.{Numeral}
use Rattle.sf_format.specs.declared.directive.Shape.{Shape}
use Rattle.sf_format.specs.declared.directive.Shape.TheVariants.{Int, Text, Set, Chars, Float, Count}
use Rattle.sf_format.specs.declared.directive.Directive.{Directive}
use Rattle.sf_format.specs.declared.directive.Directive.TheVariants.{Space, Byte, Percent, Conv, Opens}
use Rattle.sf_format.specs.declared.directive.Literal.{Literal}
use Rattle.sf_format.specs.declared.directive.Literal.TheVariants as literal
use Rattle.sf_format.specs.Leads.{is_strict_lead}
use Rattle.sf_format.specs.declared.layout.Row.{Row}
use Rattle.sf_format.specs.declared.layout.Way.{Way}
use Rattle.sf_format.specs.declared.layout.Way.TheVariants as ways

-- which way an integer of the base is passed that this may lead
abbrev pub way_led_by : Lead → Base → Way
way_led_by Any Dec = ways.Decimal
way_led_by Any Hex = ways.Hexadecimal
way_led_by Any Oct = ways.Octal
way_led_by Any Auto = ways.Automatic
way_led_by Any AutoBin = ways.AutomaticBinary
way_led_by Minus Dec = ways.StrictSigned
way_led_by Nothing Dec = ways.StrictDecimal
way_led_by Nothing Hex = ways.StrictHexadecimal
way_led_by _ _ = ways.Another

-- which way an integer so written is passed
abbrev pub way_of_integer : Numeral → Way
way_of_integer numeral = way_led_by numeral.lead numeral.base

-- which way an item by a set is passed, by the byte that alone is no member, if there is one
abbrev pub way_of_set : Option ℕ → Way
way_of_set None = ways.Members
way_of_set (Some stop) = ways.Until

-- which way a conversion is passed, whose kind holds numbers or not
abbrev pub way_of : Shape → Bool → Way
way_of (Int numeral) true = way_of_integer numeral
way_of (Int numeral) false = ways.Another
way_of (Text lead) numeric = if is_strict_lead lead then ways.StrictText else ways.Text
way_of (Set members) numeric = way_of_set (lone_lack members)
way_of Chars numeric = ways.Characters
way_of (Float lead) numeric = ways.Another
way_of Count numeric = ways.Another

-- which way a conversion is passed, which takes a column or an item: no row reads a column
abbrev pub way_placed : Bool → Shape → Bool → Way
way_placed true shape numeric = ways.Another
way_placed false shape numeric = way_of shape numeric

-- the byte before which an item of the shape ends, where it goes on to that alone
abbrev pub stop_of : Shape → ℕ
stop_of (Set members) = unwrap_or (lone_lack members) 0
stop_of _ = 0

-- the most bytes of an item with the width
abbrev pub most_of : Option ℕ → ℕ
most_of None = 2 ^ 64 - 1
most_of (Some width) = width

-- whether the kind's numbers have a sign
abbrev pub signed_in : Kind → Bool
signed_in kind = elim (bounds_of kind) [ None ↦ false | Some bounds ↦ bounds.0 ]

-- the greatest number of the kind
abbrev pub greatest_in : Kind → ℕ
greatest_in kind = elim (bounds_of kind) [ None ↦ 0 | Some bounds ↦ bounds.1 ]

-- the row of a directive that is no conversion
abbrev pub plain_row : Way → ℕ → Row
plain_row way due = record { way = way; due = due; signed = false; kind = kinds.Text; slot = None; width = 0; greatest = 0 }

-- the row of a literal that opens a group
abbrev pub row_of_literal : Literal → Row
row_of_literal (literal.Byte b) = plain_row ways.Byte b
row_of_literal literal.Percent = plain_row ways.Another 0

-- what a run asks of the directive
abbrev pub row_of : Directive → Row
row_of Space = plain_row ways.Space 0
row_of (Byte due) = plain_row ways.Byte due
row_of Percent = plain_row ways.Another 0
row_of (Opens o) = row_of_literal o.literal
row_of (Conv c) = record {
  way = way_placed c.column c.shape (is_some (bounds_of c.kind));
  due = stop_of c.shape;
  signed = signed_in c.kind;
  kind = c.kind;
  slot = c.slot;
  width = most_of c.width;
  greatest = greatest_in c.kind;
}

-- ---- what a run counts that is Done (C11 7.21.6.2p16)

abbrev pub is_item : Shape → Bool
is_item Count = false
is_item _ = true

-- it takes an input item: conversions do, but for n and %%
abbrev pub takes_item : Directive → Bool
takes_item (Conv c) = is_item c.shape
takes_item _ = false

-- it gives an input item to a destination
abbrev pub assigns_item : Directive → Bool
assigns_item (Conv c) = is_item c.shape && is_some c.slot
assigns_item _ = false

-- how many directives take an input item
abbrev pub items_taken : List Directive → ℕ
items_taken ds = count_by takes_item ds

-- how many directives give an input item to a destination
abbrev pub items_assigned : List Directive → ℕ
items_assigned ds = count_by assigns_item ds
