-- What a scan has taken of a column.
use Rattle.std.specs.Prelude.{◌≡◌, ℕ, ◌+◌, ◌⊎◌, Bool, true, false, List, [], ◌∷◌, ◌++◌, length, Some, None}
use Rattle.sf_base.specs.Bytes.{is_white}
use Rattle.sf_base.specs.Blanks.{are_white, trimmed_front}
use Rattle.sf_format.specs.declared.directive.Lead.{Lead}
use Rattle.sf_format.specs.declared.directive.Lead.TheVariants.{Any, Minus, Nothing}
use Rattle.sf_format.specs.declared.directive.Numeral.{Numeral}
use Rattle.sf_format.specs.declared.directive.Shape.{Shape}
use Rattle.sf_format.specs.declared.directive.Shape.TheVariants.{Int, Text, Set, Chars, Float, Count}
use Rattle.sf_format.specs.declared.directive.Conversion.{Conversion}
use Rattle.sf_format.specs.Leads.{is_strict}
use Rattle.sf_item.specs.declared.column.ColumnScan.{ColumnScan}
use Rattle.sf_item.specs.declared.column.Place.{Place}
use Rattle.sf_item.specs.declared.column.Place.TheVariants as place
use Rattle.sf_item.specs.declared.item.ItemEnd.{ItemEnd}
use Rattle.sf_item.specs.declared.item.ItemEnd.TheVariants.{Empty, Unmatched, Matched, Integer}
use Rattle.sf_item.specs.declared.reading.Reading.{Reading}
use Rattle.sf_item.specs.Columns.{column_width}
use Rattle.sf_item.specs.ColumnTests.{column_text, fills}
use Rattle.sf_item.specs.Scan.{HoldsNumber, shape_of, HasRead, ReadsNext}
use Rattle.sf_item.specs.Taking.{IsInt}
use Rattle.sf_item.specs.Tests.{integer_at}

-- the conversion whose column is scanned
abbrev pub conversion_of : ColumnScan → Conversion
conversion_of scan = scan.conversion.now

-- how many bytes the column has left
abbrev pub column_left : ColumnScan → ℕ
column_left scan = scan.left

-- nothing was taken, or white space alone
abbrev pub is_blank_place : Place → Bool
is_blank_place place.Blank = true
is_blank_place _ = false

-- ---- how a text is read

-- without ! a text has any bytes
abbrev pub text_shape : Lead → Shape
text_shape Any = Chars
text_shape Minus = Text Minus
text_shape Nothing = Text Nothing

-- the shape that the text of a column is read as
abbrev pub column_shape : Shape → Shape
column_shape (Int numeral) = Int numeral
column_shape (Text lead) = text_shape lead
column_shape (Set members) = Set members
column_shape Chars = Chars
column_shape (Float lead) = Float lead
column_shape Count = Count

-- a text was read so, and then came white space with which it is not read on
pub record HasEnded (reading : Reading) (x : List ℕ) : Type 0 where
  pub text : List ℕ
  pub blank : ℕ
  pub blanks : List ℕ
  pub whole : x ≡ text ++ blank ∷ blanks
  pub ink : are_white text ≡ false
  pub white : are_white (blank ∷ blanks) ≡ true
  pub read : HasRead reading text
  pub refused : ReadsNext reading None (text ++ blank ∷ [])

-- the bytes f of a column have brought its text so far
abbrev pub IsAt : Conversion → Reading → Place → List ℕ → Type 0
IsAt c reading place.Blank f = (are_white f ≡ true) × HasRead reading []
IsAt c reading place.Inside f =
    (are_white f ≡ false) × (is_strict c.shape ≡ true → trimmed_front f ≡ f) × HasRead reading (trimmed_front f)
IsAt c reading place.After f = (are_white f ≡ false) × (is_strict c.shape ≡ false) × HasEnded reading (trimmed_front f)
IsAt c reading place.Broken f = (z : List ℕ) → (are_white (f ++ z) ≡ false) × (fills c (column_text c (f ++ z)) ≡ false)

-- the same, and it is read as it is to be
abbrev pub HasReached : Conversion → Reading → Place → List ℕ → Type 0
HasReached c reading place f = (shape_of reading ≡ column_shape c.shape) × IsAt c reading place f

-- the place after the bytes g of a text, of which b is the last and all others were read
abbrev pub IsAfterByte : Bool → ℕ → Reading → Reading → List ℕ → Place → Type 0
IsAfterByte strict b before after g place.Blank = ⊥
IsAfterByte strict b before after g place.Inside = ReadsNext before (Some after) g
IsAfterByte strict b before after g place.After =
    (after ≡ before) × ReadsNext before None g × (is_white b ≡ true) × (strict ≡ false)
IsAfterByte strict b before after g place.Broken =
    (after ≡ before) × ReadsNext before None g × ((is_white b ≡ false) ⊎ (strict ≡ true))

-- the scan has taken the bytes f of its column
pub record HasTakenColumn (scan : ColumnScan) (f : List ℕ) : Type 0 where
  pub left : column_left scan + length f ≡ column_width (conversion_of scan)
  pub reached : HasReached (conversion_of scan) scan.reading scan.place f

-- ---- the end

-- what the text t of a column is
abbrev pub TextEnds : Conversion → List ℕ → ItemEnd → Type 0
TextEnds c t Empty = ⊥
TextEnds c t Unmatched = fills c t ≡ false
TextEnds c t Matched = (fills c t ≡ true) × (IsInt c.shape → ⊥)
TextEnds c t (Integer negative magnitude overflowed) =
    (numeral : Numeral) × (m : ℕ) × (c.shape ≡ Int numeral) × (integer_at numeral t ≡ Some (negative, m))
    × HoldsNumber magnitude overflowed m
