-- Laws of items.
use Rattle.std.specs.Prelude.{◌≡◌, ◌≢◌, ◌↔◌, ℕ, ◌+◌, ◌<◌, min, true, false, List, [], ◌∷◌, ◌++◌, length, Option, Some, None}
use Rattle.sf_base.specs.Blanks.{are_white}
use Rattle.sf_format.specs.declared.directive.Numeral.{Numeral}
use Rattle.sf_format.specs.declared.directive.Shape.TheVariants.{Int, Chars}
use Rattle.sf_format.specs.declared.directive.Conversion.{Conversion}
use Rattle.sf_format.specs.Proper.{IsProperShape}
use Rattle.sf_item.specs.Columns.{IsTextOf, Fills}
use Rattle.sf_item.specs.ColumnTests.{column_text, fills}
use Rattle.sf_item.specs.Matching.{IsItem}
use Rattle.sf_item.specs.Progress.{Progress}
use Rattle.sf_item.specs.Tests.{read, is_within, can_take, has_item}

-- the input has an item of this many bytes and no other
pub record HasOneItem (c : Conversion) (x : List ℕ) : Type 0 where
  pub count : ℕ
  pub is : IsItem c x count
  pub only : (other : ℕ) → IsItem c x other → other ≡ count

-- each input has one item
abbrev pub EachHasOneItem : Type 0
EachHasOneItem = (c : Conversion) → has_item c.shape ≡ true → IsProperShape c.shape → (x : List ℕ) → HasOneItem c x

-- an item that ends before a byte of the input is the item of every longer input
abbrev pub EndedItemsStay : Type 0
EndedItemsStay = (c : Conversion) → IsProperShape c.shape → (x z : List ℕ) (k : ℕ) → IsItem c x k → k < length x → IsItem c (x ++ z) k

-- the item under a width is the item without it, cut at the width; characters are counted by theirs, and stay out
abbrev pub WidthsCutItems : Type 0
WidthsCutItems = (c : Conversion) → IsProperShape c.shape → c.shape ≢ Chars → (w : ℕ) → c.width ≡ Some w → (x : List ℕ) (k : ℕ)
    → IsItem (record c { width = None }) x k → IsItem c x (min k w)

-- ---- what can be taken

-- the fronts of what can be taken can be taken
abbrev pub FrontsCanBeTaken : Type 0
FrontsCanBeTaken = (c : Conversion) (f t : List ℕ) → can_take c (f ++ t) ≡ true → can_take c f ≡ true

-- within the width, an integer can always go on with a 0
abbrev pub IntegersGoOn : Type 0
IntegersGoOn = (c : Conversion) (numeral : Numeral) (f : List ℕ) → c.shape ≡ Int numeral → can_take c f ≡ true
    → is_within c.width (length f + 1) ≡ true
    → can_take c (f ++ 48 ∷ []) ≡ true

-- an integer is read one part after the other
abbrev pub ReadingsGoOn : Type 0
ReadingsGoOn = (numeral : Numeral) (o : Option Progress) (f g : List ℕ) → read numeral o (f ++ g) ≡ read numeral (read numeral o f) g

-- ---- columns

-- the test of a column's text says what it is to say
abbrev pub FillingIsComputed : Type 0
FillingIsComputed = (c : Conversion) (t : List ℕ) → fills c t ≡ true ↔ Fills c t

-- a column that isn't white space alone has one text, which is computed
abbrev pub TextsAreComputed : Type 0
TextsAreComputed = (c : Conversion) (s t : List ℕ) → are_white s ≡ false → IsTextOf c s t ↔ (t ≡ column_text c s)
