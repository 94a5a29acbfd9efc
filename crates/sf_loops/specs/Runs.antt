-- The run of one record.
use Rattle.std.specs.Prelude.{◌≡◌, ◌≤◌, ◌+◌, ℕ, List, take, true, false, Option, Some, IsSome, if◌then◌else◌}
use Rattle.sf_format.specs.declared.directive.Directive.{Directive}
use Rattle.sf_format.specs.Widths.{width_sum}
use Rattle.sf_run.specs.outcome.Ending.{Ending}
use Rattle.sf_run.specs.outcome.Ending.TheVariants.{End}
use Rattle.sf_run.specs.Limits.{RunTold}
use Rattle.sf_run.specs.Runs.{RunReport}
use Rattle.sf_run.specs.Stopping.{is_memory_status}
use Rattle.sf_read.specs.source.Ahead.{Ahead, input_of}
use Rattle.sf_read.specs.source.Counts.{counted_on, lines_after}
use Rattle.sf_read.specs.Made.{Made}
use Rattle.sf_read.specs.Reads.{WaitedFor}
use Rattle.sf_read.specs.Scan.{Scan, is_fault}

-- A run by the format, under a limit, of what is held and to come; `lines` and `lines'` are the counts of newlines before and after.
pub record IsNextRun {S : Type 0} (to_come : S → Option (List ℕ)) (reads failures : S → ℕ) (N : ℕ) (ds : List Directive) (m : ℕ)
    (old new : Ahead S)
    (lines lines' : ℕ) (report : RunReport) : Type 0 where
  pub scan : (t : List ℕ) → input_of to_come old ≡ Some t → Scan to_come ds m t old new report
  -- the report is that of some input, also where the source doesn't tell its own
  pub told : (x : List ℕ) × (ending : Ending) × RunTold ds m x ending report
  pub bounded : IsSome (width_sum ds) → is_memory_status report.status ≡ false
  pub failed : failures new.source ≡ (if is_fault report.met then counted_on (failures old.source) else failures old.source)
  pub end : report.met ≡ Some End → new.at_end ≡ true
  pub count : reads new.source ≤ reads old.source + report.used + 1
  -- nothing is read after what the report rests on
  pub waited : WaitedFor to_come reads N ds m old new report.used
  -- the report is that of what was held and then of what the reads gave, whatever the source says of itself
  pub made : Made to_come reads N ds m old new report
  -- the newlines that the run consumed are counted
  pub lines_are : (t : List ℕ) → input_of to_come old ≡ Some t → lines' ≡ lines_after lines (take report.used t)
