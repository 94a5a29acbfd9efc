-- A loop over the lines of an input, each an input of its own, as C programs have it with fgets and sscanf (C11 7.21.7.2, 7.21.6.7): where
-- it stands, and what it answers next.
use Rattle.std.specs.Prelude.{◌≡◌, ◌≤◌, ℕ, List, [], Bool, true, false, length, Option, Some, None, IsSome, Result, Ok, Err, if◌then◌else◌}
use Rattle.sf_base.specs.Data.{Datum}
use Rattle.sf_base.specs.declared.values.Kind.{Kind}
use Rattle.sf_format.specs.declared.directive.Directive.{Directive}
use Rattle.sf_format.specs.Widths.{width_sum}
use Rattle.sf_run.specs.outcome.Ending.TheVariants.{End}
use Rattle.sf_run.specs.outcome.Status.{Status}
use Rattle.sf_run.specs.outcome.Status.TheVariants as status
use Rattle.sf_run.specs.Limits.{RunTold, RunWithin}
use Rattle.sf_run.specs.Runs.{RunReport}
use Rattle.sf_read.specs.field.Rows.{AreSlotsOf}
use Rattle.sf_read.specs.source.Ahead.{Ahead}
use Rattle.sf_read.specs.source.Counts.{counted_on}
use Rattle.sf_read.specs.declared.line.line.LineRead.{LineRead}
use Rattle.sf_read.specs.declared.line.line.LineRead.TheVariants as reads
use Rattle.sf_read.specs.declared.line.line.LineRead.TheVariants.{NoMemory as NoRoom}
use Rattle.sf_read.specs.declared.matching.Match.{Match}
use Rattle.sf_read.specs.Matches.{leaves}
use Rattle.sf_read.specs.line.Reading.{Outgrows, Reads, UsesLine, is_failed}
use Rattle.sf_loops.specs.declared.line_fault.LineFault.{LineFault}
use Rattle.sf_loops.specs.declared.line_fault.LineStop.{LineStop}
use Rattle.sf_loops.specs.declared.line_fault.LineWhy.{LineWhy}
use Rattle.sf_loops.specs.declared.line_fault.LineWhy.TheVariants as why
use Rattle.sf_loops.specs.Turns.{outcome_of}

-- What is held and to come, the format, the limit of each line and of each run, how much of a line a match has to use, how many lines were
-- read, the last of them, how many bytes of a line there is room for, the report of the last run, and how the loop has ended, where it has:
-- cleanly, or by a fault.
pub record LineLoop (S : Type 0) : Type 0 where
  pub ahead : Ahead S
  pub format : List Directive
  pub limit : ℕ
  pub matching : Match
  pub read : ℕ
  pub line : List ℕ
  pub room : ℕ
  pub report : RunReport
  pub over : Option (Option LineStop)

-- the fault says this
pub record IsLineFault (fault : LineFault) (number : ℕ) (text : List ℕ) (why : LineWhy) : Type 0 where
  pub number_is : fault.number ≡ number
  pub text_is : fault.text.items ≡ text
  pub why_is : fault.why ≡ why

-- what a loop that has ended answers
abbrev pub LineEndedWith : {A : Type 0} → A → Option LineStop → Result A LineFault → Type 0
LineEndedWith nothing None result = result ≡ Ok nothing
LineEndedWith nothing (Some stop) (Err fault) = IsLineFault fault stop.number [] stop.why
LineEndedWith nothing (Some stop) (Ok _) = ⊥

-- the loop over these, after so many lines, has ended so, or goes on
pub record IsLineLoop {S : Type 0} (old new : LineLoop S) (read : ℕ) (over : Option (Option LineStop)) : Type 0 where
  pub format : new.format ≡ old.format
  pub limit : new.limit ≡ old.limit
  pub read_are : new.read ≡ read
  pub over_is : new.over ≡ over

-- the line fails, and the loop goes on after it
abbrev pub Misses : {S : Type 0} → LineLoop S → LineLoop S → List ℕ → LineWhy → Result Bool LineFault → Type 0
Misses old new text why (Err fault) = IsLineFault fault (counted_on old.read) text why × IsLineLoop old new (counted_on old.read) None
Misses old new text why (Ok _) = ⊥

-- the loop ends at the next line
abbrev pub Stops : {S : Type 0} → LineLoop S → LineLoop S → LineWhy → Result Bool LineFault → Type 0
Stops old new why (Err fault) = IsLineFault fault (counted_on old.read) [] why
    × IsLineLoop old new old.read (Some (Some (record { number = counted_on old.read; why = why })))
Stops old new why (Ok _) = ⊥

-- the run over the line is Done: the line has a report, unless some of it is left that a match has to use
abbrev pub DoneBy : {S : Type 0} → LineLoop S → LineLoop S → Bool → List ℕ → Result Bool LineFault → Type 0
DoneBy old new true text result = Misses old new text (why.LeftOver new.report.used) result
DoneBy old new false text result = (result ≡ Ok true) × (new.line ≡ text) × IsLineLoop old new (counted_on old.read) None

-- a line was read, and the run over it came to this
abbrev pub Judged : {S : Type 0} → LineLoop S → LineLoop S → Status → List ℕ → Result Bool LineFault → Type 0
Judged old new status.Done text result =
    DoneBy old new (leaves old.matching status.Done new.report.used (length text)) text result
Judged old new status.NoMemory text result = Stops old new why.NoMemory result
Judged old new _ text result = Misses old new text (why.Failed (outcome_of new.report)) result

-- the report is that of the line as a whole input
pub record IsScanned {S : Type 0} (old new : LineLoop S) (text : List ℕ) : Type 0 where
  pub told : RunTold old.format old.limit text End new.report
  pub bounded : IsSome (width_sum old.format) → RunWithin old.format old.limit text End new.report

-- by what was read
abbrev pub Comes : {S : Type 0} → LineLoop S → LineLoop S → LineRead → List ℕ → Result Bool LineFault → Type 0
Comes old new reads.Line text result = IsScanned old new text × Judged old new new.report.status text result
Comes old new reads.TooLong text result = Misses old new text why.TooLong result
Comes old new reads.End text result = (result ≡ Ok false) × IsLineLoop old new old.read (Some None)
Comes old new reads.Fault text result = Stops old new why.Read result
Comes old new reads.Endless text result = Stops old new why.Endless result
Comes old new reads.NoMemory text result = Stops old new why.NoMemory result

-- the next line was read, and this came of it
pub record IsNextLine {S : Type 0} (to_come : S → Option (List ℕ)) (reads failures : S → ℕ) (N : ℕ) (old new : LineLoop S)
    (result : Result Bool LineFault) : Type 0 where
  pub read : LineRead
  pub text : List ℕ
  pub reading : Reads to_come old.ahead new.ahead old.limit text read
  -- each read was asked for where all the bytes before it were used and had no newline
  pub waited : UsesLine to_come reads N old.ahead new.ahead old.limit text read
  pub failed : failures new.ahead.source
      ≡ (if is_failed read then counted_on (failures old.ahead.source) else failures old.ahead.source)
  pub comes : Comes old new read text result
  pub matching : new.matching ≡ old.matching
  -- memory for the line is refused only where there is no room for it
  pub refused : read ≡ NoRoom → Outgrows to_come old.ahead old.limit old.room
  -- the room of a line that has a report stays for the next one
  pub kept : result ≡ Ok true → old.room ≤ new.room
  pub roomy : result ≡ Ok true → length new.line ≤ new.room

-- ---- rows

-- memory for the row of a line was refused
abbrev pub IsLineRefused : {S : Type 0} → LineLoop S → LineLoop S → LineFault → Type 0
IsLineRefused advanced new fault = IsLineFault fault advanced.read [] why.NoMemory
    × (new ≡ record advanced { over = Some (Some (record { number = advanced.read; why = why.NoMemory })) })

-- by whether there is a report: its row, or memory for that was refused; or the same fault, or the end
abbrev pub LineRowAnswers : {S T : Type 0} → List Kind → (T → List (Option Datum)) → LineLoop S → LineLoop S → Result Bool LineFault
    → Result (Option T) LineFault → Type 0
LineRowAnswers kinds given advanced new (Ok true) (Ok (Some row)) =
    (new ≡ advanced) × AreSlotsOf (length kinds) (given row) advanced.report.values
LineRowAnswers kinds given advanced new (Ok true) (Err fault) = IsLineRefused advanced new fault
LineRowAnswers kinds given advanced new (Ok false) (Ok None) = new ≡ advanced
LineRowAnswers kinds given advanced new (Err fault) (Err told) = (told ≡ fault) × (new ≡ advanced)
LineRowAnswers kinds given advanced new _ _ = ⊥

-- the next line as a row
pub record IsNextLineRow {S T : Type 0} (to_come : S → Option (List ℕ)) (reads failures : S → ℕ) (N : ℕ) (kinds : List Kind)
    (given : T → List (Option Datum)) (old new : LineLoop S) (result : Result (Option T) LineFault) : Type 0 where
  pub advanced : LineLoop S
  pub turn : Result Bool LineFault
  pub is : IsNextLine to_come reads failures N old advanced turn
  pub answers : LineRowAnswers kinds given advanced new turn result
