-- Columns: the bytes that a conversion with = takes, and the text in them (our own; C has no columns).
use Rattle.std.specs.Prelude.{◌≡◌, ℕ, ◌≤◌, Bool, true, false, List, length, Option, unwrap_or}
use Rattle.sf_base.specs.Greatest.{IsGreatest}
use Rattle.sf_base.specs.Blanks.{IsTrimmed}
use Rattle.sf_format.specs.declared.directive.Lead.{Lead}
use Rattle.sf_format.specs.declared.directive.Lead.TheVariants.{Any, Minus, Nothing}
use Rattle.sf_format.specs.declared.directive.Shape.{Shape}
use Rattle.sf_format.specs.declared.directive.Shape.TheVariants.{Int, Text, Set, Chars, Float, Count}
use Rattle.sf_format.specs.declared.directive.Conversion.{Conversion}
use Rattle.sf_format.specs.Leads.{is_strict}
use Rattle.sf_item.specs.Matching.{ShapeMatches}

-- how many bytes a column has, where so many are left
abbrev pub column_width : Conversion → ℕ
column_width c = unwrap_or c.width 1

-- the column has k bytes: as many of x as its width allows
abbrev pub IsColumn : Conversion → List ℕ → ℕ → Type 0
IsColumn c x k = IsGreatest (λ j. (j ≤ length x) × (j ≤ column_width c)) k

-- the text t of a column s: what the white space at both ends leaves; with ! all of it
abbrev pub IsTextUnder : Bool → List ℕ → List ℕ → Type 0
IsTextUnder true s t = t ≡ s
IsTextUnder false s t = IsTrimmed s t

abbrev pub IsTextOf : Conversion → List ℕ → List ℕ → Type 0
IsTextOf c s t = IsTextUnder (is_strict c.shape) s t

-- without ! a text may have white space inside
abbrev pub TextFills : Lead → Option ℕ → List ℕ → Type 0
TextFills Any width t = Unit {0}
TextFills Minus width t = ShapeMatches (Text Minus) width t
TextFills Nothing width t = ShapeMatches (Text Nothing) width t

-- the text of a column is a matching sequence, all of it; no format has a column of characters, where each text would do
abbrev pub ShapeFills : Shape → Option ℕ → List ℕ → Type 0
ShapeFills (Int numeral) width t = ShapeMatches (Int numeral) width t
ShapeFills (Text lead) width t = TextFills lead width t
ShapeFills (Set members) width t = ShapeMatches (Set members) width t
ShapeFills Chars width t = Unit {0}
ShapeFills (Float lead) width t = ShapeMatches (Float lead) width t
ShapeFills Count width t = ⊥

abbrev pub Fills : Conversion → List ℕ → Type 0
Fills c t = ShapeFills c.shape c.width t
