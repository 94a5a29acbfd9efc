use Rattle.sf_command.proofs.jobs.job.scan_job_of.Goals as goal

pub returns-in-Ok-clause-ok : goal.returns-in-Ok-clause-ok
returns-in-Ok-clause-ok c = rw c.in-Some.is (c.printed_job.ensures.ok c.args.form c.in-Some.given.now c.in-Ok.ensures.ok)

pub returns-in-Ok-clause-err : goal.returns-in-Ok-clause-err
returns-in-Ok-clause-err c = rw c.in-Some.is (c.printed_job.ensures.err c.in-Some.given.now c.in-Ok.ensures.ok)
