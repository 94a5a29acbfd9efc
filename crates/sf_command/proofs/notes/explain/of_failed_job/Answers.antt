use Rattle.std.proofs.Common.{◌≡◌, Some, inl, sym}
use Rattle.sf_command.specs.jobs.Jobs.{scan_of}
use Rattle.sf_command.proofs.JobLemmas.Results.{if_ok}
use Rattle.sf_command.proofs.NoteLemmas.Explaining.{failed_says}
use Rattle.sf_command.proofs.notes.explain.of_failed_job.Goals as goal

pub returns-in-Some : goal.returns-in-Some
returns-in-Some c strict form print of texts is =
    let same : scan_of c.args.job.now ≡ Some c.in-Some.scan.now = sym c.in-Some.ensures in
    if_ok c.of_failed.result _ _ (λ notes says. inl (failed_says c.args.profile c.args.number c.args.outcome c.args.left.place
    c.args.left.held.now notes.items strict form print c.args.job.now of texts is c.in-Some.scan.now same says)) c.of_failed.ensures
