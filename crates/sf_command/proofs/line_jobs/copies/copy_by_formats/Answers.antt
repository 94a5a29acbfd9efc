use Rattle.sf_command.proofs.LineJobLemmas.Copying.{no_pair_fault}
use Rattle.sf_command.proofs.line_jobs.copies.copy_by_formats.Goals as goal

pub returns-in-Ok-clause-own : goal.returns-in-Ok-clause-own
returns-in-Ok-clause-own g c =
    let (telling, says, ran) = c.copy_by_pair.ensures in
    no_pair_fault c.args.formats.now ran.end.status ran.end.fault c.copy_by_pair.result ran.answers
