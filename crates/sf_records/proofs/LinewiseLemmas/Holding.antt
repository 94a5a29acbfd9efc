-- A line that is scanned where it stands.
use Rattle.std.proofs.Common.{◌≡◌, ℕ, ◌<◌, ◌≤◌, List, [], ◌++◌, length}
use Rattle.std.proofs.Common.{Option, refl, sym, ap, subst, ◌∙◌, arith, append-nil}
use Rattle.sf_format.specs.declared.directive.Directive.{Directive}
use Rattle.sf_format.specs.Proper.{AreProper}
use Rattle.sf_run.specs.outcome.Ending.{Ending}
use Rattle.sf_run.specs.outcome.Ending.TheVariants.{End}
use Rattle.sf_run.specs.outcome.Status.TheVariants.{Done}
use Rattle.sf_run.specs.Runs.{RunReport}
use Rattle.sf_run.specs.Limits.{RunWithin}
use Rattle.sf_run.specs.Laws.{EachDoneRunStays, EachEarlyRunStays, EachHasOneReport}
use Rattle.sf_forms.specs.makers.Works.{outcome_of, with_met}
use Rattle.sf_records.specs.declared.by_lines.options.LinesOptions.{LinesOptions}
use Rattle.sf_records.specs.by_lines.Judging.{BeginsWith, IsRunOn, IsSeen}
use Rattle.sf_records.specs.by_lines.Turns.{fault_from, fault_of}

-- what a run that is Done met is nothing to the line
done_alike : (o : LinesOptions) (line : List ℕ) (report : RunReport) (met : Option Ending) → report.status ≡ Done
    → fault_of o line (with_met report met) ≡ fault_of o line report
done_alike o line report met done =
    ap (λ s. fault_from o.whole (length line) s (outcome_of (with_met report met))) done
    ∙ sym (ap (λ s. fault_from o.whole (length line) s (outcome_of report)) done)

module _ (o : LinesOptions) (ds : List Directive) (proper : AreProper ds) (line ended : List ℕ) (report : RunReport)
    (run : (z : List ℕ) (ending : Ending) → RunWithin ds o.limit (ended ++ z) ending report) where
  on_ended : (ending : Ending) → RunWithin ds o.limit ended ending report
  on_ended ending = subst (λ y. RunWithin ds o.limit y ending report) (append-nil ended) (run [] ending)

  -- a run that leaves a byte of the line is the line's own
  pub early_on : EachEarlyRunStays → BeginsWith ended line → report.used < length line → IsRunOn o ds line report
  early_on stays (behind, is) early = (
    report.met,
    stays ds proper o.limit line behind End End report (subst (λ y. RunWithin ds o.limit y End report) is (on_ended End)) early,
    refl,
  )

  -- one that is Done within the line tells the same, but for what it met
  pub done_on : EachDoneRunStays → BeginsWith ended line → report.status ≡ Done → report.used ≤ length line
      → IsRunOn o ds line report
  done_on stays (behind, is) done within =
      let own = stays ds proper o.limit line behind End End report (subst (λ y. RunWithin ds o.limit y End report) is (on_ended End)) done
      within in
      (own.0, own.1, done_alike o line report own.0 done)

  module _ (one : EachHasOneReport) (capacity : ℕ) (seen : IsSeen o ds line ended capacity) where
    report_is : report ≡ seen.run.report
    report_is =
        let all = one ds proper o.limit ended seen.run.ending in
        all.only report (on_ended seen.run.ending) ∙ sym (all.only seen.run.report seen.run.is)

    -- a line whose run is seen is used alone
    pub used_alone : report.used ≤ length line
    used_alone = let low = seen.within in omega (arith, low, ap (λ r. r.used) report_is)

    -- where it is used to its end, the run is Done
    pub done_whole : length line ≤ report.used → report.status ≡ Done
    done_whole all =
        let same = ap (λ r. r.used) report_is in
        let low = seen.within in
        ap (λ r. r.status) report_is ∙ seen.whole (omega (arith, all, same, low))
