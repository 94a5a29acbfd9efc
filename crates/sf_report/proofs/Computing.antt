-- The functions compute what the relations say.
use Rattle.std.proofs.Common.{ℕ, sym, ap₂, subst}
use Rattle.sf_report.specs.Steps.{StepEnd, Step}
use Rattle.sf_report.specs.Runs.{Steps}
use Rattle.sf_report.specs.Laws.{EachStepIsComputed, EachRunIsComputed}
use Rattle.sf_report.proofs.StepLaws.{step_is, step_only}
use Rattle.sf_report.proofs.RunLaws.{steps_is, steps_only}

pub each_step : EachStepIsComputed
each_step d proper x n k end = (
  λ h. let only = step_only d proper x n k end h in ap₂ (λ (i : ℕ) (e : StepEnd). (i, e)) (sym only.0) (sym only.1),
  λ e. subst (λ (r : ℕ × StepEnd). Step d x n r.0 r.1) e (step_is d proper x n),
)

pub each_run : EachRunIsComputed
each_run ds proper x n ran = (
  λ h. steps_only ds proper x n ran h,
  λ e. subst (Steps ds x n) (sym e) (steps_is ds proper x n),
)
