-- The texts that a run stores.
use Rattle.std.specs.Prelude.{◌≡◌, ℕ, Bool, true, false, not, ◌&&◌, if◌then◌else◌, List, [], ◌∷◌, ◌++◌, map, Option, Some, None}
use Rattle.std.specs.Option.{option_map}
use Rattle.sf_base.specs.Blanks.{are_white, trimmed_front, trimmed_end}
use Rattle.sf_base.specs.Bytes.{is_white}
use Rattle.sf_base.specs.Data.{Assigned}
use Rattle.sf_base.specs.stores.Kept.{Opened, longer}
use Rattle.sf_format.specs.declared.directive.Shape.{Shape}
use Rattle.sf_format.specs.declared.directive.Shape.TheVariants.{Int, Text, Set, Chars, Float, Count}
use Rattle.sf_format.specs.declared.directive.Directive.{Directive}
use Rattle.sf_format.specs.declared.directive.Directive.TheVariants.{Conv}
use Rattle.sf_format.specs.Leads.{is_strict}
use Rattle.sf_format.specs.Proper.{AreColumned, AreProper, IsColumned, IsProper}
use Rattle.sf_report.specs.Machine.{Stage, Skipping, Taken, Item}

abbrev pub slot_of_text : Shape → Option ℕ → Option ℕ
slot_of_text (Int numeral) slot = None
slot_of_text Count slot = None
slot_of_text (Text lead) slot = slot
slot_of_text (Set members) slot = slot
slot_of_text Chars slot = slot
slot_of_text (Float lead) slot = slot

-- the slot whose text the bytes of the directive's item are, as they stand or while a float is read, if there is one
abbrev pub text_slot : Directive → Option ℕ
text_slot (Conv c) = slot_of_text c.shape c.slot
text_slot _ = None

-- the slot that a directive assigns
abbrev pub slot_of : Directive → Option ℕ
slot_of (Conv c) = c.slot
slot_of _ = None

abbrev pub is_count : Shape → Bool
is_count Count = true
is_count _ = false

-- it is n
abbrev pub counts_bytes : Directive → Bool
counts_bytes (Conv c) = is_count c.shape
counts_bytes _ = false

-- ---- columns

-- it takes a column
abbrev pub is_column : Directive → Bool
is_column (Conv c) = c.column
is_column _ = false

-- what holds of each directive of an accepted format
abbrev pub IsSound : Directive → Type 0
IsSound d = IsProper d × IsColumned d

abbrev pub AreSound : List Directive → Type 0
AreSound ds = AreProper ds × AreColumned ds

-- a column without ! gives its text without the white space at its end
abbrev pub is_cut : Directive → Bool
is_cut (Conv c) = c.column && not (is_strict c.shape)
is_cut _ = false

-- the text that a directive gives of the one under way
abbrev pub closing_text : Directive → List ℕ → List ℕ
closing_text d text = if is_cut d then trimmed_end text else text

-- ---- the text under way

-- the bytes that were taken of an item, or of a column
abbrev pub taken_at : Stage → List ℕ
taken_at Skipping = []
taken_at Taken = []
taken_at (Item f) = f

-- their text: of a column what follows the white space at its front
abbrev pub text_taken : Bool → List ℕ → List ℕ
text_taken true f = trimmed_front f
text_taken false f = f

-- the text that a directive has at this stage
abbrev pub item_of : Directive → Stage → List ℕ
item_of d Skipping = []
item_of d Taken = []
item_of d (Item f) = text_taken (is_column d) f

-- the text of an item for this slot, where the item has a byte
abbrev pub text_begun : Option ℕ → List ℕ → Option Opened
text_begun None item = None
text_begun (Some slot) [] = None
text_begun (Some slot) (b ∷ item) = Some (record { slot = slot; text = b ∷ item })

-- the text under way of a directive at this stage
abbrev pub opened_for : Directive → Stage → Option Opened
opened_for d q = text_begun (text_slot d) (item_of d q)

-- the slot of the opened text
abbrev pub opened_slot : Option Opened → Option ℕ
opened_slot opened = option_map (λ o. o.slot) opened

-- the slots that were given something
abbrev pub slots_in : List Assigned → List ℕ
slots_in values = map (λ a. a.slot) values

-- after the bytes g of its item
abbrev pub opened_with : Option ℕ → List ℕ → Option Opened → Option Opened
opened_with None g opened = opened
opened_with (Some slot) g None = Some (record { slot = slot; text = g })
opened_with (Some slot) g (Some o) = longer g (Some o)

-- the byte belongs to a text that the directive stores
abbrev pub IsInText : Shape → ℕ → Type 0
IsInText (Text lead) b = is_white b ≡ false
IsInText (Float lead) b = is_white b ≡ false
IsInText _ b = Unit {0}

-- the same of the byte after these; in a column the text begins with the first that is no white space
abbrev pub IsInTextBy : Bool → Shape → List ℕ → ℕ → Type 0
IsInTextBy true shape u b = are_white (u ++ b ∷ []) ≡ false
IsInTextBy false shape u b = IsInText shape b

-- the directive, which has taken these bytes, stores the next
abbrev pub StoresByte : Directive → List ℕ → ℕ → Type 0
StoresByte (Conv c) u b = (slot : ℕ) × (text_slot (Conv c) ≡ Some slot) × IsInTextBy c.column c.shape u b
StoresByte _ u b = ⊥

-- the slot of the text under way, before and after some bytes, in a directive with this one
abbrev pub IsNextSlot : Option ℕ → Option ℕ → Option ℕ → Type 0
IsNextSlot text None None = Unit {0}
IsNextSlot text None (Some slot) = text ≡ Some slot
IsNextSlot text (Some slot) None = ⊥
IsNextSlot text (Some slot) (Some next) = next ≡ slot
