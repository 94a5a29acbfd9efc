use Rattle.sf_command.proofs.JobLemmas.Suiting.{all_judged, judged_next, unsuited_at}
use Rattle.sf_command.proofs.jobs.writing.check_formats.Goals as goal

pub returns-in-Err-clause-err : goal.returns-in-Err-clause-err
returns-in-Err-clause-err c =
    unsuited_at c.args.writing.now c.args.formats.now c.loop-format.format-index c.format-item.result c.loop-format-test.true
    c.format-item.is c.in-Err.fault c.in-Err.ensures.err c.loop-format.invariant

pub loop-format-preserved : goal.loop-format-preserved
loop-format-preserved c =
    judged_next c.args.writing.now c.args.formats.now c.loop-format.format-index c.format-item.result c.loop-format-test.true
    c.format-item.is c.in_default.ensures.ok c.loop-format.invariant

pub returns-clause-ok : goal.returns-clause-ok
returns-clause-ok c =
    all_judged c.args.writing.now c.args.formats.now c.loop-format.format-index c.loop-format-test.false c.loop-format.invariant
