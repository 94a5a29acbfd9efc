-- A loop over the records of an input: where it stands, and what it answers next.
use Rattle.std.specs.Prelude.{◌≡◌, ℕ, List, [], Bool, true, false, length, Option, Some, None, Result, Ok, Err}
use Rattle.sf_base.specs.Data.{Assigned, Datum}
use Rattle.sf_base.specs.stores.Kept.{Kept}
use Rattle.sf_base.specs.declared.values.Kind.{Kind}
use Rattle.sf_format.specs.declared.directive.Directive.{Directive}
use Rattle.sf_run.specs.Runs.{RunReport}
use Rattle.sf_read.specs.field.Rows.{AreSlotsOf}
use Rattle.sf_read.specs.source.Ahead.{Ahead}
use Rattle.sf_read.specs.source.Counts.{counted_on}
use Rattle.sf_loops.specs.declared.fault.RecordFault.{RecordFault}
use Rattle.sf_loops.specs.declared.fault.RecordWhy.{RecordWhy}
use Rattle.sf_loops.specs.declared.fault.RecordWhy.TheVariants as why
use Rattle.sf_loops.specs.declared.turn.Turn.{Turn}
use Rattle.sf_loops.specs.declared.turn.Turn.TheVariants.{Goes, Cut, Ends, Stops}
use Rattle.sf_loops.specs.Runs.{IsNextRun}
use Rattle.sf_loops.specs.Turns.{turn_of}

-- What is held and to come, the format and the limit of each run, how many records were answered, how many newlines the runs consumed, the
-- report of the last run, and how the loop has ended, where it has: cleanly, or by a fault.
pub record Loop (S : Type 0) : Type 0 where
  pub ahead : Ahead S
  pub format : List Directive
  pub limit : ℕ
  pub answered : ℕ
  pub lines : ℕ
  pub report : RunReport
  pub over : Option (Option RecordFault)

-- the values that a store has
abbrev pub values_in : Option Kept → List Assigned
values_in None = []
values_in (Some kept) = kept.values

-- what a loop that has ended answers
abbrev pub ended_with : {A : Type 0} → A → Option RecordFault → Result A RecordFault
ended_with nothing None = Ok nothing
ended_with nothing (Some fault) = Err fault

-- the fault of a record, by the newlines that were consumed with it
abbrev pub fault_of : ℕ → ℕ → RecordWhy → RecordFault
fault_of before lines why = record { number = counted_on before; line = counted_on lines; why = why }

-- the loop over these, after so many records and newlines, has ended so, or goes on
pub record IsLoop {S : Type 0} (old new : Loop S) (answered : ℕ) (over : Option (Option RecordFault)) : Type 0 where
  pub format : new.format ≡ old.format
  pub limit : new.limit ≡ old.limit
  pub answered_are : new.answered ≡ answered
  pub over_is : new.over ≡ over

-- By what the loop does after a run: whether there is a record, and how the loop goes on.
abbrev pub Advances : {S : Type 0} → Loop S → Loop S → Turn → Result Bool RecordFault → Type 0
Advances old new Goes result = (result ≡ Ok true) × IsLoop old new (counted_on old.answered) None
Advances old new Cut result = (result ≡ Ok true) × IsLoop old new (counted_on old.answered)
    (Some (Some (fault_of old.answered new.lines why.Read)))
Advances old new Ends result = (result ≡ Ok false) × IsLoop old new old.answered (Some None)
Advances old new (Stops why) result =
    (result ≡ Err (fault_of old.answered new.lines why)) × IsLoop old new old.answered (Some (Some (fault_of old.answered new.lines why)))

-- there was one run, and the loop goes on or ends by it
pub record IsNext {S : Type 0} (to_come : S → Option (List ℕ)) (reads failures : S → ℕ) (N : ℕ) (old new : Loop S)
    (result : Result Bool RecordFault) : Type 0 where
  pub run : IsNextRun to_come reads failures N old.format old.limit old.ahead new.ahead old.lines new.lines new.report
  pub advances : Advances old new (turn_of old.format new.report) result

-- ---- rows

-- memory for the row of a record was refused
abbrev pub IsRowRefused : {S : Type 0} → Loop S → Loop S → RecordFault → Type 0
IsRowRefused advanced new fault =
    (fault ≡ record { number = advanced.answered; line = counted_on advanced.lines; why = why.NoMemory })
    × (new ≡ record advanced { over = Some (Some fault) })

-- by whether there is a record: its row, or memory for that was refused; or what the loop has ended with
abbrev pub RowAnswers : {S T : Type 0} → List Kind → (T → List (Option Datum)) → Loop S → Loop S → Result Bool RecordFault
    → Result (Option T) RecordFault → Type 0
RowAnswers kinds given advanced new (Ok true) (Ok (Some row)) =
    (new ≡ advanced) × AreSlotsOf (length kinds) (given row) advanced.report.values
RowAnswers kinds given advanced new (Ok true) (Err fault) = IsRowRefused advanced new fault
RowAnswers kinds given advanced new (Ok false) (Ok None) = new ≡ advanced
RowAnswers kinds given advanced new (Err fault) (Err told) = (told ≡ fault) × (new ≡ advanced)
RowAnswers kinds given advanced new _ _ = ⊥

-- the next record as a row
pub record IsNextRow {S T : Type 0} (to_come : S → Option (List ℕ)) (reads failures : S → ℕ) (N : ℕ) (kinds : List Kind)
    (given : T → List (Option Datum))
    (old new : Loop S) (result : Result (Option T) RecordFault) : Type 0 where
  pub advanced : Loop S
  pub turn : Result Bool RecordFault
  pub is : IsNext to_come reads failures N old advanced turn
  pub answers : RowAnswers kinds given advanced new turn result
