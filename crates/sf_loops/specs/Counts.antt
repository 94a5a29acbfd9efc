-- How many records an input has.
use Rattle.std.specs.Prelude.{◌≡◌, ◌+◌, ℕ, List, length, Option, Some, None, Result, Ok, ◌⊎◌, true}
use Rattle.sf_base.specs.Data.{Datum}
use Rattle.sf_base.specs.declared.values.Kind.{Kind}
use Rattle.sf_format.specs.declared.directive.Directive.{Directive}
use Rattle.sf_format.specs.Proper.{has_optional}
use Rattle.sf_run.specs.outcome.Ending.TheVariants.{End}
use Rattle.sf_run.specs.outcome.Status.TheVariants.{Done, InputFailure}
use Rattle.sf_run.specs.Limits.{RunTold}
use Rattle.sf_run.specs.Runs.{RunReport}
use Rattle.sf_loops.specs.Laws.{AnswersInTurn, AreRecords}
use Rattle.sf_read.specs.source.Ahead.{input_of}
use Rattle.sf_loops.specs.declared.fault.RecordFault.{RecordFault}
use Rattle.sf_loops.specs.Loops.{IsNextRow, Loop, ended_with}

-- the run over t ends where fscanf would return EOF at the end of the input (C11 7.21.6.2p16), or where each item is missing at the end
pub record EndsAt (ds : List Directive) (m : ℕ) (t : List ℕ) : Type 0 where
  pub report : RunReport
  pub told : RunTold ds m t End report
  pub status : (report.status ≡ InputFailure) ⊎ (report.status ≡ Done) × (has_optional ds ≡ true)
  pub converted : report.converted ≡ 0
  pub met : report.met ≡ Some End

-- the input t has so many records, and then ends
pub record IsCount {T : Type 0} (kinds : List Kind) (given : T → List (Option Datum)) (ds : List Directive) (m : ℕ) (t : List ℕ) (n : ℕ) :
    Type 0
  where
    pub rows : List T
    pub left : List ℕ
    pub records : AreRecords kinds given ds m t rows left
    pub count : n ≡ length rows
    pub ends : EndsAt ds m left

-- so many rows were answered, and the loop has not come to the end
pub record Counting {S T : Type 0} (to_come : S → Option (List ℕ)) (reads failures : S → ℕ) (N : ℕ) (kinds : List Kind)
    (given : T → List (Option Datum)) (old now : Loop S) (n : ℕ) : Type 0 where
  pub rows : List T
  pub count : length rows ≡ n
  pub going : now.over ≡ None → AnswersInTurn to_come reads failures N kinds given old rows now × (now.format ≡ old.format)
      × (now.limit ≡ old.limit)
  pub unended : now.over ≡ Some None → ⊥

-- `next` has answered so, in a loop that goes on or has ended
pub record AnswersNext {S T : Type 0} (to_come : S → Option (List ℕ)) (reads failures : S → ℕ) (N : ℕ) (kinds : List Kind)
    (given : T → List (Option Datum)) (now new : Loop S) (result : Result (Option T) RecordFault) : Type 0 where
  pub over : (end : Option RecordFault) → now.over ≡ Some end → (new ≡ now) × (result ≡ ended_with None end)
  pub next : now.over ≡ None → IsNextRow to_come reads failures N kinds given now new result

-- a caller may count: none at first, one more with each row, and at None that is the count of the records of the input t
pub record RecordsAreCounted {S T : Type 0} (to_come : S → Option (List ℕ)) (reads failures : S → ℕ) (N : ℕ) (kinds : List Kind)
    (given : T → List (Option Datum)) : Type 0 where
  pub begins : (old : Loop S) → old.over ≡ None → Counting to_come reads failures N kinds given old old 0
  pub more : (old now new : Loop S) (n : ℕ) (row : T) → Counting to_come reads failures N kinds given old now n
      → AnswersNext to_come reads failures N kinds given now new (Ok (Some row))
      → Counting to_come reads failures N kinds given old new (n + 1)
  pub ends : (old now new : Loop S) (n : ℕ) → Counting to_come reads failures N kinds given old now n
      → AnswersNext to_come reads failures N kinds given now new (Ok None)
      → (t : List ℕ) → input_of to_come old.ahead ≡ Some t → IsCount kinds given old.format old.limit t n
