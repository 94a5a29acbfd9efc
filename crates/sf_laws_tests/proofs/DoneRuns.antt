-- What is told of runs that are Done.
use Rattle.std.proofs.Common.{◌≡◌, inl, inr, ℕ, List, ap}
use Rattle.sf_format.specs.declared.directive.Directive.{Directive}
use Rattle.sf_run.specs.outcome.Ending.{Ending}
use Rattle.sf_run.specs.outcome.Status.TheVariants.{Done}
use Rattle.sf_report.specs.Limits.{RunWithin}
use Rattle.sf_report.specs.Runs.{Run, RunReport}

-- within its limit
pub done_run : (ds : List Directive) (m : ℕ) (x : List ℕ) (ending : Ending) (r : RunReport) → r.status ≡ Done → RunWithin ds m x ending r
    → Run ds x ending r
done_run ds m x ending r done (inl w) = w.1
done_run ds m x ending r done (inr w) = let is = ap (λ (o : RunReport). o.status) w.2 in absurd cc
