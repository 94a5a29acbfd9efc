-- Columns as tests that compute. proofs/Columns shows that they are those of Columns.
use Rattle.std.specs.Prelude.{◌≡◌, ℕ, Bool, true, false, not, ◌||◌, if◌then◌else◌, List, Option, Some}
use Rattle.sf_base.specs.Blanks.{are_white, trimmed}
use Rattle.sf_format.specs.declared.directive.Lead.{Lead}
use Rattle.sf_format.specs.declared.directive.Numeral.{Numeral}
use Rattle.sf_format.specs.declared.directive.Shape.{Shape}
use Rattle.sf_format.specs.declared.directive.Shape.TheVariants.{Int, Text, Set, Chars, Float, Count}
use Rattle.sf_format.specs.declared.directive.Conversion.{Conversion}
use Rattle.sf_format.specs.Leads.{is_strict, is_strict_lead}
use Rattle.sf_item.specs.declared.item.ItemEnd.{ItemEnd}
use Rattle.sf_item.specs.declared.item.ItemEnd.TheVariants.{Empty, Unmatched, Matched, Integer}
use Rattle.sf_item.specs.Scan.{HoldsNumber}
use Rattle.sf_item.specs.Taking.{IsInt}
use Rattle.sf_item.specs.Tests.{integer_at, shape_matches}

-- the text of a column with these bytes
abbrev pub column_text : Conversion → List ℕ → List ℕ
column_text c s = if is_strict c.shape then s else trimmed s

abbrev pub text_fills : Lead → Option ℕ → List ℕ → Bool
text_fills lead width t = not (is_strict_lead lead) || shape_matches (Text lead) width t

abbrev pub shape_fills : Shape → Option ℕ → List ℕ → Bool
shape_fills (Int numeral) width t = shape_matches (Int numeral) width t
shape_fills (Text lead) width t = text_fills lead width t
shape_fills (Set members) width t = shape_matches (Set members) width t
shape_fills Chars width t = true
shape_fills (Float lead) width t = shape_matches (Float lead) width t
shape_fills Count width t = false

-- the text of a column is a matching sequence, all of it
abbrev pub fills : Conversion → List ℕ → Bool
fills c t = shape_fills c.shape c.width t

-- What the bytes f of a column are: exactly one of the four for each f. Empty is white space alone.
abbrev pub ColumnEnds : Conversion → List ℕ → ItemEnd → Type 0
ColumnEnds c f Empty = are_white f ≡ true
ColumnEnds c f Unmatched = (are_white f ≡ false) × (fills c (column_text c f) ≡ false)
ColumnEnds c f Matched = (are_white f ≡ false) × (fills c (column_text c f) ≡ true) × (IsInt c.shape → ⊥)
ColumnEnds c f (Integer negative magnitude overflowed) =
    (are_white f ≡ false) × ((numeral : Numeral) × (m : ℕ) × (c.shape ≡ Int numeral)
    × (integer_at numeral (column_text c f) ≡ Some (negative, m)) × HoldsNumber magnitude overflowed m)
