-- Directives that begin and pass within a piece of the input, and give a store what they give.
use Rattle.std.specs.Prelude.{◌≡◌, ℕ, ◌+◌, ◌<◌, ◌≤◌, Bool, true, List, [], ◌++◌, length, Option, Some, None}
use Rattle.sf_base.specs.Data.{Assigned, datum_at}
use Rattle.sf_base.specs.stores.Kept.{Kept, text_in, texts_in}
use Rattle.sf_format.specs.declared.directive.Directive.{Directive}
use Rattle.sf_format.specs.Layout.{items_assigned, items_taken}
use Rattle.sf_format.specs.Proper.{has_optional}
use Rattle.sf_report.specs.declared.outcome.Ending.{Ending}
use Rattle.sf_report.specs.declared.outcome.Status.TheVariants.{Done}
use Rattle.sf_report.specs.Limits.{RunWithin}
use Rattle.sf_report.specs.Machine.{Skipping}
use Rattle.sf_run.specs.Pieces.{EndsIn}
use Rattle.sf_report.specs.Residual.{one_from}
use Rattle.sf_report.specs.Runs.{RunReport, passed}
use Rattle.sf_report.specs.Steps.{StepEnd, Passes as Passed, Stores, Misses, Fails}
use Rattle.sf_run.specs.Tallies.{PassesSo, values_with}
use Rattle.sf_run.specs.declared.quick.Passage.{Passage}
use Rattle.sf_run.specs.declared.quick.PassageEnd.{PassageEnd}
use Rattle.sf_run.specs.declared.quick.PassageEnd.TheVariants as ends
use Rattle.sf_run.specs.Texts.{slot_of}

-- the slot, where there is one, is one of so many of a store with these values, and may be given something
abbrev pub MayBeGiven : ℕ → Option ℕ → List Assigned → Type 0
MayBeGiven slots None values = Unit {0}
MayBeGiven slots (Some slot) values = (1 ≤ slot) × (slot ≤ slots) × (datum_at slot values ≡ None)

-- the store was given what a directive gives that passes so
pub record GivesTo (end : StepEnd) (stores : Bool) (old new : Kept) : Type 0 where
  pub passes : PassesSo end stores
  pub values : new.values ≡ values_with end old.values
  pub opened : new.opened ≡ None
  pub joined : old.closed ≡ texts_in old.values → new.closed ≡ texts_in new.values

-- the slot that is given something
abbrev pub slot_stored : StepEnd → Option ℕ
slot_stored (Stores slot v) = Some slot
slot_stored _ = None

-- the text that is stored
abbrev pub text_stored : StepEnd → List ℕ
text_stored (Stores slot v) = text_in v
text_stored _ = []

-- the directive gives nothing, or the storing of its text in a store with so much room may be refused
abbrev pub IsUngiven : StepEnd → ℕ → Type 0
IsUngiven end room = passed end ≡ true → room < length (text_stored end)

-- On the piece and what follows it, the directive ends before a byte of the piece is lacking; a text that it gives has room.
pub record IsSure (d : Directive) (n : ℕ) (piece : List ℕ) (room : ℕ) : Type 0 where
  pub after : List ℕ
  pub early : (one_from d Skipping n (piece ++ after)).used < n + length piece
  pub fits : length (text_stored (one_from d Skipping n (piece ++ after)).end) ≤ room

-- The run on the piece ends, however it does, before a byte of it, or one that the limit allows, is lacking, and a store of
-- this capacity has room for its texts.
pub record IsEndedWithin (ds : List Directive) (limit : ℕ) (piece : List ℕ) (capacity : ℕ) : Type 0 where
  pub ending : Ending
  pub report : RunReport
  pub is : RunWithin ds limit piece ending report
  pub early : report.used < length piece
  pub low : report.used < limit
  pub fits : length (texts_in report.values) ≤ capacity

-- The same of one that is Done; no item of it is missing.
pub record IsDoneWithin (ds : List Directive) (limit : ℕ) (piece : List ℕ) (capacity : ℕ) : Type 0 where
  pub ending : Ending
  pub report : RunReport
  pub is : RunWithin ds limit piece ending report
  pub done : report.status ≡ Done
  pub early : report.used < length piece
  pub low : report.used < limit
  pub fits : length (texts_in report.values) ≤ capacity
  -- no item is missing
  pub whole : has_optional ds ≡ true → report.converted ≡ items_taken ds

-- the directive has passed within the piece
pub record PassesWithin (d : Directive) (n : ℕ) (piece : List ℕ) (taken : ℕ) (stores : Bool) (old new : Kept) : Type 0 where
  pub end : StepEnd
  pub takes : EndsIn d Skipping n piece taken end
  pub gives : GivesTo end stores old new
  pub own : slot_stored end ≡ slot_of d

-- the directive has passed within the piece, and stored something or not
abbrev pub Passes : Directive → ℕ → List ℕ → ℕ → Kept → Kept → Type 0
Passes d n piece taken old new = (stores : Bool) × PassesWithin d n piece taken stores old new

-- how a directive ends that gives nothing
abbrev pub ungiven_end : PassageEnd → StepEnd
ungiven_end ends.Passes = Passed
ungiven_end ends.Misses = Misses
ungiven_end (ends.Fails status) = Fails status

-- where the directive ends so, the store was given what it gives
abbrev pub GivenSo : PassageEnd → Directive → StepEnd → Kept → Kept → Type 0
GivenSo ends.Passes d end old new = (stores : Bool) × GivesTo end stores old new × (slot_stored end ≡ slot_of d)
GivenSo other d end old new = (end ≡ ungiven_end other) × (new ≡ old)

-- the directive takes so many bytes of the piece, whatever follows that, ends so, and the store was given what it gives
pub record EndsSo (d : Directive) (n : ℕ) (piece : List ℕ) (passage : Passage) (old new : Kept) : Type 0 where
  pub end : StepEnd
  pub takes : EndsIn d Skipping n piece passage.taken end
  pub gives : GivenSo passage.end d end old new

-- the report of a run of the directives that is Done and met no end, after so many bytes and with these values (C11 7.21.6.2p16)
abbrev pub done_by : List Directive → ℕ → List Assigned → RunReport
done_by ds used values = record {
  status = Done;
  at = 0;
  assigned = items_assigned ds;
  converted = items_taken ds;
  used = used;
  met = None;
  values = values;
}
