-- Laws of runs.
use Rattle.std.specs.Prelude.{◌≡◌, ◌↔◌, ℕ, ◌<◌, ◌≤◌, Bool, true, false, List, ◌++◌, length, Option, None}
use Rattle.sf_base.specs.Bytes.{AreBytes}
use Rattle.sf_format.specs.declared.directive.Directive.{Directive}
use Rattle.sf_format.specs.Proper.{IsAccepted, IsProper, AreProper, has_optional}
use Rattle.sf_report.specs.declared.outcome.Ending.{Ending}
use Rattle.sf_report.specs.declared.outcome.Status.TheVariants.{Done}
use Rattle.sf_report.specs.Steps.{StepEnd, Step}
use Rattle.sf_report.specs.Runs.{RunReport, Ran, Steps, IsOpen, Run}
use Rattle.sf_report.specs.Runs as runs
use Rattle.sf_report.specs.Machine.{some_below, Skipping}
use Rattle.sf_report.specs.Residual.{nothing_yet, one_from, run_of}
use Rattle.sf_report.specs.Computed.{step_of, part_of, ran_of}
use Rattle.sf_report.specs.Limits.{RunWithin, RunTold}
use Rattle.sf_report.specs.Rows.{FillsSlots, HasRow}

-- the directives, the input, its ending and the limit have this report and no other
pub record HasOneReport (ds : List Directive) (m : ℕ) (x : List ℕ) (ending : Ending) : Type 0 where
  pub report : RunReport
  pub is : RunWithin ds m x ending report
  pub only : (other : RunReport) → RunWithin ds m x ending other → other ≡ report

abbrev pub EachHasOneReport : Type 0
EachHasOneReport = (ds : List Directive) → AreProper ds → (m : ℕ) (x : List ℕ) (ending : Ending) → HasOneReport ds m x ending

-- where no byte would be consumed next, the report is that of every longer input, with every ending
abbrev pub EachClosedInputStays : Type 0
EachClosedInputStays =
    (ds : List Directive) → AreProper ds → (m : ℕ) (x z : List ℕ) (first second : Ending) (report : RunReport)
    → (IsOpen ds x → ⊥) → RunWithin ds m x first report → RunWithin ds m (x ++ z) second report

-- where some byte would be consumed next, the run uses all of the input
abbrev pub EachOpenInputIsUsed : Type 0
EachOpenInputIsUsed =
    (ds : List Directive) → AreProper ds → (x : List ℕ) (ending : Ending) (report : RunReport) → IsOpen ds x → Run ds x ending report
    → report.used ≡ length x

-- Where a run is Done on an input, it is Done with the same values on every front of that input that has the bytes which it
-- used, with every ending; only what it met may be another.
abbrev pub EachDoneRunStays : Type 0
EachDoneRunStays =
    (ds : List Directive) → AreProper ds → (m : ℕ) (x z : List ℕ) (first second : Ending) (report : RunReport)
    → RunWithin ds m (x ++ z) first report → report.status ≡ Done → report.used ≤ length x
    → (met : Option Ending) × RunWithin ds m x second (record report { met = met })

-- Where a run leaves a byte of a front of its input, it is the same on that front, with every ending.
abbrev pub EachEarlyRunStays : Type 0
EachEarlyRunStays =
    (ds : List Directive) → AreProper ds → (m : ℕ) (x z : List ℕ) (first second : Ending) (report : RunReport)
    → RunWithin ds m (x ++ z) first report → report.used < length x → RunWithin ds m x second report

-- where a run of an accepted format over bytes is Done, each slot was given a value of its kind, or may be missing
abbrev pub EachDoneRunFillsSlots : Type 0
EachDoneRunFillsSlots =
    (ds : List Directive) → IsAccepted ds → (m : ℕ) (x : List ℕ) (ending : Ending) (report : RunReport)
    → AreBytes x → RunTold ds m x ending report → report.status ≡ Done → FillsSlots ds report.values

-- where such a format has no conversion that may be missing, its report has a row of values of the format's kinds
abbrev pub EachDoneRunHasItsRow : Type 0
EachDoneRunHasItsRow =
    (ds : List Directive) → IsAccepted ds → has_optional ds ≡ false → (m : ℕ) (x : List ℕ) (ending : Ending) (report : RunReport)
    → AreBytes x → RunTold ds m x ending report → report.status ≡ Done → HasRow ds report.values

-- ---- steps and runs as functions

-- a directive makes the step that is computed, and no other
abbrev pub EachStepIsComputed : Type 0
EachStepIsComputed =
    (d : Directive) → IsProper d → (x : List ℕ) (n k : ℕ) (end : StepEnd) → Step d x n k end ↔ (step_of d x n ≡ (k, end))

-- it consumes no more than there is
abbrev pub EachStepIsWithin : Type 0
EachStepIsWithin = (d : Directive) (x : List ℕ) (n : ℕ) → (step_of d x n).0 ≤ length x

-- the directive's machine, handed the input byte by byte, makes that step
abbrev pub EachMachineSteps : Type 0
EachMachineSteps = (d : Directive) (x : List ℕ) (n : ℕ) → one_from d Skipping n x ≡ part_of n x (step_of d x n)

-- the directives that run are those that are computed, and no others
abbrev pub EachRunIsComputed : Type 0
EachRunIsComputed =
    (ds : List Directive) → AreProper ds → (x : List ℕ) (n : ℕ) (ran : List Ran) → Steps ds x n ran ↔ (ran ≡ ran_of ds x n)

-- what the running totals answer is what is answered for those
abbrev pub EachRunIsTold : Type 0
EachRunIsTold = (ds : List Directive) (x : List ℕ) → run_of None ds 1 nothing_yet x ≡ runs.report_of (ran_of ds x 0) None

-- ---- tests of bytes

-- some byte below n passes the test, exactly where the answer is so
abbrev pub EachByteIsTried : Type 0
EachByteIsTried = (n : ℕ) (test : ℕ → Bool) → some_below n test ≡ true ↔ ((b : ℕ) × (b < n) × (test b ≡ true))
