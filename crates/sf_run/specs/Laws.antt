-- Laws of runs and of scanners.
use Rattle.std.specs.Prelude.{◌≡◌, ℕ, false, List}
use Rattle.sf_format.specs.declared.directive.Directive.{Directive}
use Rattle.sf_format.specs.Proper.{AreProper}
use Rattle.sf_report.specs.declared.outcome.Ending.{Ending}
pub use Rattle.sf_report.specs.Laws.{HasOneReport, EachHasOneReport, EachClosedInputStays, EachOpenInputIsUsed, EachDoneRunStays}
pub use Rattle.sf_report.specs.Laws.{EachEarlyRunStays}
pub use Rattle.sf_report.specs.Laws.{EachDoneRunFillsSlots, EachDoneRunHasItsRow}
pub use Rattle.sf_report.specs.Laws.{EachStepIsComputed, EachStepIsWithin, EachMachineSteps, EachRunIsComputed, EachRunIsTold}
pub use Rattle.sf_report.specs.Laws.{EachByteIsTried}
use Rattle.sf_run.specs.Standing.{Standing, Gives, report_of, ran_out}

-- two scanners, over whichever stores, that have ended on the same input and refused no storing, report the same
abbrev pub EachStoreReportsAlike : Type 0
EachStoreReportsAlike =
    (ds : List Directive) → AreProper ds → (m : ℕ) (x : List ℕ) (ending : Ending) (one other : Standing)
    → Gives ds m one x ending → Gives ds m other x ending → ran_out one ≡ false → ran_out other ≡ false → report_of one ≡ report_of other
