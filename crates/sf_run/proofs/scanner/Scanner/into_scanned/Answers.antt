use Rattle.std.proofs.Common.{ap, sym, subst, ◌∙◌}
use Rattle.sf_run.specs.Stopping.{is_memory_status, is_no_memory}
use Rattle.sf_report.specs.Runs.{RunReport}
use Rattle.sf_report.specs.Limits.{RunWithin, RunTold}
use Rattle.sf_run.specs.Scanner.{kept_by, standing}
use Rattle.sf_run.proofs.Waits.{waits_open, gives_report, after_report, told_exactly}
use Rattle.sf_run.proofs.scanner.Scanner.into_scanned.Goals as goal

pub returns-in-None-clause-waits : goal.returns-in-None-clause-waits
returns-in-None-clause-waits g c ds m x h _ = waits_open ds m (standing c.args.self) x h c.in-None.is

pub returns-in-Some-clause-after : goal.returns-in-Some-clause-after
returns-in-Some-clause-after g c ds m x ending h =
    let s = c.args.self in
    subst (λ (r : RunReport). RunWithin ds m x ending r) (sym (c.new.ensures.report ∙ c.outcome.ensures (kept_by s).values))
    (after_report ds m (standing s) x ending c.in-Some.stop h c.in-Some.is)

pub returns-in-Some-clause-gives : goal.returns-in-Some-clause-gives
returns-in-Some-clause-gives g c ds m x ending h =
    let s = c.args.self in
    subst (λ (r : RunReport). RunTold ds m x ending r) (sym (c.new.ensures.report ∙ c.outcome.ensures (kept_by s).values))
    (gives_report ds m (standing s) x ending c.in-Some.stop h c.in-Some.is)

pub returns-in-Some-clause-used : goal.returns-in-Some-clause-used
returns-in-Some-clause-used g c = ap (λ (r : RunReport). r.used) (c.new.ensures.report ∙ c.outcome.ensures (kept_by c.args.self).values)

pub returns-in-Some-clause-memory : goal.returns-in-Some-clause-memory
returns-in-Some-clause-memory g c =
    ap (λ (r : RunReport). is_memory_status r.status) (c.new.ensures.report ∙ c.outcome.ensures (kept_by c.args.self).values)
    ∙ sym (ap is_no_memory c.in-Some.is)

pub returns-in-Some-clause-exactly : goal.returns-in-Some-clause-exactly
returns-in-Some-clause-exactly g c =
    let s = c.args.self in told_exactly (standing s) c.in-Some.stop _ c.in-Some.is
    (c.new.ensures.report ∙ c.outcome.ensures (kept_by s).values)
