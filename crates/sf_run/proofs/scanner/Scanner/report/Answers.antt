use Rattle.std.proofs.Common.{ap, sym, subst, ◌∙◌}
use Rattle.sf_run.specs.Stopping.{is_memory_status, is_no_memory}
use Rattle.sf_report.specs.Runs.{RunReport}
use Rattle.sf_report.specs.Limits.{RunWithin, RunTold}
use Rattle.sf_run.specs.Scanner.{kept_by, standing}
use Rattle.sf_run.proofs.Waits.{waits_open, gives_report, after_report, told_exactly}
use Rattle.sf_run.proofs.scanner.Scanner.report.Goals as goal

pub returns-in_err-stop-clause-none : goal.returns-in_err-stop-clause-none
returns-in_err-stop-clause-none g c ds m x h _ = waits_open ds m (standing c.args.self.now) x h c.in_err-stop.was

pub returns-clause-after : goal.returns-clause-after
returns-clause-after g c ds m x ending h =
    let s = c.args.self.now in
    subst (λ (r : RunReport). RunWithin ds m x ending r) (sym (c.new.ensures ∙ c.outcome.ensures (kept_by s).values))
    (after_report ds m (standing s) x ending c.in_ok-stop.stop h c.in_ok-stop.was)

pub returns-clause-gives : goal.returns-clause-gives
returns-clause-gives g c ds m x ending h =
    let s = c.args.self.now in
    subst (λ (r : RunReport). RunTold ds m x ending r) (sym (c.new.ensures ∙ c.outcome.ensures (kept_by s).values))
    (gives_report ds m (standing s) x ending c.in_ok-stop.stop h c.in_ok-stop.was)

pub returns-clause-memory : goal.returns-clause-memory
returns-clause-memory g c =
    ap (λ (r : RunReport). is_memory_status r.status) (c.new.ensures ∙ c.outcome.ensures (kept_by c.args.self.now).values)
    ∙ sym (ap is_no_memory c.in_ok-stop.was)

pub returns-clause-exactly : goal.returns-clause-exactly
returns-clause-exactly g c =
    let s = c.args.self.now in told_exactly (standing s) c.in_ok-stop.stop _ c.in_ok-stop.was
    (c.new.ensures ∙ c.outcome.ensures (kept_by s).values)
