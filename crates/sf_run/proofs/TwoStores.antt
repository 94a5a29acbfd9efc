-- Scanners over two stores report alike.
use Rattle.sf_report.proofs.Machines.{some_is}
use Rattle.std.proofs.Common.{◌≡◌, ℕ, inl, inr, false, List, Option, Some, None, sym, ap, ◌∙◌, true≢false}
use Rattle.sf_format.specs.declared.directive.Directive.{Directive}
use Rattle.sf_report.specs.declared.outcome.Ending.{Ending}
use Rattle.sf_run.specs.declared.scanner.Stop.{Stop}
use Rattle.sf_run.specs.Laws.{EachStoreReportsAlike}
use Rattle.sf_report.specs.Limits.{RunTold, RunWithin}
use Rattle.sf_report.specs.Residual.{Tally}
use Rattle.sf_report.specs.Runs.{RunReport}
use Rattle.sf_run.specs.Standing.{report_by}
use Rattle.sf_run.specs.Stopping.{is_memory_status, is_no_memory}
use Rattle.sf_report.proofs.Told.{one_report}

same_status : (o : Option Stop) (t : Tally) (met : Option Ending) (r : RunReport) → report_by o t met ≡ Some r
    → is_memory_status r.status ≡ is_no_memory o
same_status None t met r e = cc
same_status (Some stop) t met r e = ap (λ (p : RunReport). is_memory_status p.status) (sym (some_is _ r e))

told_within : (ds : List Directive) (m : ℕ) (x : List ℕ) (ending : Ending) (r : RunReport) → RunTold ds m x ending r
    → is_memory_status r.status ≡ false → RunWithin ds m x ending r
told_within ds m x ending r (inl w) fine = w
told_within ds m x ending r (inr w) fine = absurd (true≢false (sym (ap (λ (o : RunReport). is_memory_status o.status) w.2.3) ∙ fine))

pub stores_report_alike : EachStoreReportsAlike
stores_report_alike ds proper m x ending one other g h fine fine' =
    let only = (one_report ds proper m x ending).only in
    let first = only g.report (told_within ds m x ending g.report g.right (same_status one.ended one.tally one.met g.report g.is ∙ fine)) in
    let second = only h.report (told_within ds m x ending h.report h.right
    (same_status other.ended other.tally other.met h.report h.is ∙ fine')) in
    g.is ∙ ap (λ (r : RunReport). Some r) (first ∙ sym second) ∙ sym h.is
