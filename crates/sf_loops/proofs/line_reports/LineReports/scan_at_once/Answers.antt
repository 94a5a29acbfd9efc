use Rattle.std.proofs.Common.{◌≡◌, ◌≤◌, true, false, refl, subst}
use Rattle.std.specs.Prelude.{IsSomeAnd, unwrap_or}
use Rattle.sf_format.specs.Widths.{width_sum}
use Rattle.sf_run.specs.Memory.{capacity_of}
use Rattle.sf_loops.proofs.Scanning.{line_answers, ran_as}
use Rattle.sf_loops.proofs.line_reports.LineReports.scan_at_once.Goals as goal

pub returns-in-Some-run_at_once-clause-run : goal.returns-in-Some-run_at_once-clause-run
returns-in-Some-run_at_once-clause-run g c = ran_as _ c.args.self.now _ _ c.self.view_is refl c.in-Some-run_at_once.ensures.run

pub returns-in-None-clause-answers : goal.returns-in-None-clause-answers
returns-in-None-clause-answers g c =
    line_answers _ c.args.self.now (capacity_of c.in-Some.store) (false ≡ true) c.self.view_is
    (subst (λ o. IsSomeAnd o (λ s. unwrap_or (width_sum c.self.inside.format.now) 0 ≤ capacity_of s)) c.in-Some.is
    c.self.invariant.roomy) c.in-None.ensures.answers
