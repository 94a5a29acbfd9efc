-- What the code holds of a directive that is under way.
use Rattle.std.specs.Prelude.{IsTrue, ◌≡◌, ◌≢◌, ◌+◌, ◌<◌, ℕ, Bool, true, false, List, [], ◌∷◌, ◌++◌, length, take, Option, Some, None, ℤ}
use Rattle.sf_base.specs.Data.{Bytes, Number}
use Rattle.sf_base.specs.Kinds.{is_held, with_sign}
use Rattle.sf_format.specs.declared.directive.Conversion.{Conversion}
use Rattle.sf_format.specs.declared.directive.Directive.{Directive}
use Rattle.sf_format.specs.declared.directive.Directive.TheVariants.{Conv}
use Rattle.sf_item.specs.declared.column.ColumnScan.{ColumnScan}
use Rattle.sf_item.specs.declared.item.ItemScan.{ItemScan}
use Rattle.sf_item.specs.ColumnScans.{HasTakenColumn}
use Rattle.sf_item.specs.ColumnScans as columns
use Rattle.sf_item.specs.Taking.{HasTaken, conversion_of}
use Rattle.sf_item.specs.Tests.{can_take}
use Rattle.sf_report.specs.Steps.{StepEnd, Passes, Stores, Misses, Fails}
use Rattle.sf_report.specs.Machine.{Stage, Skipping, Item, number_end, real_at, real_end}
use Rattle.sf_report.specs.Residual.{stepped_all}
use Rattle.sf_run.specs.Texts.{text_slot, is_column, item_of, opened_for, opened_slot}
use Rattle.sf_run.specs.Stopping.{is_memory_status}
use Rattle.sf_run.specs.declared.directive.Phase.{Phase}
use Rattle.sf_run.specs.declared.directive.Phase.TheVariants as phase
use Rattle.sf_run.specs.declared.directive.Finished.{Finished}
use Rattle.sf_run.specs.declared.directive.Finished.TheVariants as finish

-- the directive has taken bytes of its item, which is the text of this slot, or of none
pub record ShowsItem (d : Directive) (slot : Option ℕ) (scan : ItemScan) (q : Stage) : Type 0 where
  pub item : List ℕ
  pub stage : q ≡ Item item
  pub own : d ≡ Conv (conversion_of scan)
  pub taken : HasTaken scan item
  pub begun : item ≢ []
  pub text : text_slot d ≡ slot
  pub plain : is_column d ≡ false

-- the directive has taken bytes of its column; the text in them, where it has begun, is that of this slot
pub record ShowsColumn (d : Directive) (slot : Option ℕ) (scan : ColumnScan) (q : Stage) : Type 0 where
  pub column : List ℕ
  pub stage : q ≡ Item column
  pub own : d ≡ Conv (columns.conversion_of scan)
  pub taken : HasTakenColumn scan column
  pub begun : column ≢ []
  pub text : opened_slot (opened_for d q) ≡ slot
  pub placed : is_column d ≡ true

-- the stage after these bytes of a column
abbrev pub stage_of : List ℕ → Stage
stage_of [] = Skipping
stage_of (b ∷ column) = Item (b ∷ column)

-- the directive has come to this stage
abbrev pub Shows : Directive → Phase → Stage → Type 0
Shows d phase.Skipping q = q ≡ Skipping
Shows d (phase.Item scan) q = ShowsItem d None scan q
Shows d (phase.Text slot scan) q = ShowsItem d (Some slot) scan q
Shows d (phase.Column slot scan) q = ShowsColumn d slot scan q

-- each front of f and the bytes y that has one of y at least can be taken
abbrev pub CanAll : Conversion → List ℕ → List ℕ → Type 0
CanAll c f y = (k : ℕ) → k < length y → can_take c (f ++ take (k + 1) y) ≡ true

-- the stage with more bytes of the text
abbrev pub GrowsBy : Directive → Stage → List ℕ → Stage → Type 0
GrowsBy d q g r = item_of d r ≡ item_of d q ++ g

-- These bytes bring a directive from a stage as far as the phase shows. Those of its text are g.
pub record Brings (d : Directive) (q : Stage) (y g : List ℕ) (new : Phase) : Type 0 where
  pub stage : Stage
  pub stepped : stepped_all d q y ≡ Some stage
  pub shown : Shows d new stage
  pub grown : GrowsBy d q g stage

-- the slot of the text under way
abbrev pub slot_in : Phase → Option ℕ
slot_in phase.Skipping = None
slot_in (phase.Item scan) = None
slot_in (phase.Text slot scan) = Some slot
slot_in (phase.Column slot scan) = slot

-- a column is under way
abbrev pub is_in_column : Phase → Bool
is_in_column (phase.Column slot scan) = true
is_in_column _ = false

-- how a directive ended, where this is the text under way
abbrev pub end_of : List ℕ → Finished → StepEnd
end_of text finish.Passes = Passes
end_of text (finish.Stores slot kind negative magnitude) = Stores slot (Number kind (with_sign negative magnitude))
end_of text (finish.Closes slot) = Stores slot (Bytes text)
end_of text (finish.Reads slot kind) = real_end slot (real_at kind text)
end_of text finish.Misses = Misses
end_of text (finish.Fails status) = Fails status

-- the item is missing
abbrev pub is_missing : Finished → Bool
is_missing finish.Misses = true
is_missing _ = false

-- of a directive that may be missing: it is, where it fails
abbrev pub or_missing : Finished → Finished
or_missing (finish.Fails status) = finish.Misses
or_missing end = end

abbrev pub is_failing : Finished → Bool
is_failing (finish.Fails status) = true
is_failing _ = false

-- the slot whose text is closed
abbrev pub slot_closed : Finished → Option ℕ
slot_closed (finish.Closes slot) = Some slot
slot_closed (finish.Reads slot kind) = Some slot
slot_closed _ = None

-- the slot that is given something
abbrev pub slot_given : Finished → Option ℕ
slot_given (finish.Stores slot kind negative magnitude) = Some slot
slot_given (finish.Closes slot) = Some slot
slot_given (finish.Reads slot kind) = Some slot
slot_given _ = None

abbrev pub is_memory_failure : Finished → Bool
is_memory_failure (finish.Fails status) = is_memory_status status
is_memory_failure _ = false

-- what is stored as a number is one of its kind
abbrev pub IsNumberGiven : Finished → Type 0
IsNumberGiven (finish.Stores slot kind negative magnitude) = IsTrue (is_held kind negative magnitude)
IsNumberGiven _ = Unit {0}

-- the end of a conversion that matched a number, which its kind may not hold
abbrev pub passed_number : Conversion → Option ℕ → Option ℤ → StepEnd
passed_number c None value = Passes
passed_number c (Some slot) value = number_end c slot value
