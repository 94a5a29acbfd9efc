-- What a scan of a row answers.
use Rattle.std.specs.Prelude.{◌≡◌, ◌≢◌, ◌≤◌, ◌+◌, ℕ, List, length, Bool, true, false, Option, Some, None}
use Rattle.std.specs.Prelude.{IsSome, Result, Ok, Err, if◌then◌else◌}
use Rattle.sf_base.specs.declared.values.Kind.{Kind}
use Rattle.sf_base.specs.Data.{Datum}
use Rattle.sf_format.specs.declared.directive.Directive.{Directive}
use Rattle.sf_format.specs.Proper.{destinations_of, kind_at, may_miss}
use Rattle.sf_format.specs.Widths.{width_sum}
use Rattle.sf_run.specs.outcome.Ending.{Ending}
use Rattle.sf_run.specs.outcome.Ending.TheVariants.{End}
use Rattle.sf_run.specs.outcome.Status.TheVariants.{Done}
use Rattle.sf_run.specs.Limits.{RunTold, RunWithin}
use Rattle.sf_run.specs.Rows.{at_slot}
use Rattle.sf_run.specs.Runs.{RunReport}
use Rattle.sf_run.specs.Stopping.{is_memory_status}
use Rattle.sf_run.specs.Views.{report_by}
use Rattle.sf_read.specs.declared.row.ScanRowFault.{ScanRowFault}
use Rattle.sf_read.specs.declared.row.ScanRowFault.TheVariants.{ShapeDiffers, Start, Failed, LeftOver, NoMemory}
use Rattle.sf_read.specs.declared.shape.ShapeFault.{ShapeFault}
use Rattle.sf_read.specs.declared.matching.Match.{Match}
use Rattle.sf_read.specs.Matches.{leaves}
use Rattle.sf_read.specs.source.Ahead.{Ahead, input_of}
use Rattle.sf_read.specs.source.Counts.{counted_on}
use Rattle.sf_read.specs.Reads.{WaitedFor}
use Rattle.sf_read.specs.Made.{Made}
use Rattle.sf_read.specs.field.Rows.{AreSlotsOf}
use Rattle.sf_read.specs.Scan.{Scan, is_fault}

-- the slots with these kinds are the destinations of the format, with theirs; those of the format that may be missing may be so in the row
pub record HasShape (kinds : List Kind) (optional : ℕ → Bool) (ds : List Directive) : Type 0 where
  pub count : length kinds ≡ length (destinations_of ds)
  pub each : (slot : ℕ) → at_slot slot kinds ≡ kind_at slot ds
  pub missing : (slot : ℕ) → may_miss slot ds ≡ true → optional slot ≡ true

-- the format stores eight numbers or fewer, and no texts
abbrev pub IsOfFew : List Directive → Type 0
IsOfFew ds = (length (destinations_of ds) ≤ 8) × (width_sum ds ≡ Some 0)

-- how the shapes differ, where that is why there was no run
abbrev pub difference_in : ScanRowFault → Option ShapeFault
difference_in (ShapeDiffers by) = Some by
difference_in _ = None

abbrev pub difference_of : {T : Type 0} → Result T ScanRowFault → Option ShapeFault
difference_of (Ok row) = None
difference_of (Err fault) = difference_in fault

-- there was a run
abbrev pub is_run : {T : Type 0} → Result T ScanRowFault → Bool
is_run (Ok row) = true
is_run (Err (ShapeDiffers by)) = false
is_run (Err (Start fault)) = false
is_run (Err (Failed outcome)) = true
is_run (Err (LeftOver at)) = true
is_run (Err NoMemory) = true

-- what is answered where the run has this report
abbrev pub Answers : {T : Type 0} → List Kind → (T → List (Option Datum)) → RunReport → Result T ScanRowFault → Type 0
Answers kinds given report (Ok row) = (report.status ≡ Done) × AreSlotsOf (length kinds) (given row) report.values
Answers kinds given report (Err (ShapeDiffers by)) = ⊥
Answers kinds given report (Err (Start fault)) = ⊥
Answers kinds given report (Err (LeftOver at)) = ⊥
Answers kinds given report (Err (Failed outcome)) = (report.status ≢ Done) × (report_by outcome report.values ≡ report)
Answers kinds given report (Err NoMemory) = report.status ≡ Done

-- there was a run, and its one report is answered
pub record RowScan {S T : Type 0} (to_come : S → Option (List ℕ)) (reads failures : S → ℕ) (N : ℕ) (kinds : List Kind)
    (given : T → List (Option Datum))
    (ds : List Directive) (m : ℕ) (old new : Ahead S) (result : Result T ScanRowFault) : Type 0 where
  pub report : RunReport
  pub answers : Answers kinds given report result
  pub scan : (t : List ℕ) → input_of to_come old ≡ Some t → Scan to_come ds m t old new report
  -- the report is that of some input, also where the source doesn't make its own known
  pub told : (x : List ℕ) × (ending : Ending) × RunTold ds m x ending report
  pub bounded : IsSome (width_sum ds) → is_memory_status report.status ≡ false
  pub failed : failures new.source ≡ (if is_fault report.met then counted_on (failures old.source) else failures old.source)
  pub end : report.met ≡ Some End → new.at_end ≡ true
  pub count : reads new.source ≤ reads old.source + report.used + 1
  pub waited : WaitedFor to_come reads N ds m old new report.used
  -- the report is that of what was held and then of what the reads gave, whatever the source says of itself
  pub made : Made to_come reads N ds m old new report

-- what is answered where the run has this report, by whether it leaves some of the text that it had to use
abbrev pub TextAnswers : {T : Type 0} → List Kind → (T → List (Option Datum)) → RunReport → Bool → Result T ScanRowFault → Type 0
TextAnswers kinds given report true result = result ≡ Err (LeftOver report.used)
TextAnswers kinds given report false result = Answers kinds given report result

-- there was a run of the whole text, and its one report is answered
pub record TextRow {T : Type 0} (kinds : List Kind) (given : T → List (Option Datum)) (ds : List Directive) (m : ℕ) (text : List ℕ)
    (matching : Match) (result : Result T ScanRowFault) : Type 0 where
  pub report : RunReport
  pub answers : TextAnswers kinds given report (leaves matching report.status report.used (length text)) result
  pub told : RunTold ds m text End report
  pub bounded : IsSome (width_sum ds) → RunWithin ds m text End report
