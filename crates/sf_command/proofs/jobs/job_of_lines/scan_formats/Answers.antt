use Rattle.std.proofs.Common.{map, string_bytes}
use Rattle.sf_command.proofs.JobLemmas.LineWords.{refused_after, refused_before}
use Rattle.sf_command.proofs.jobs.job_of_lines.scan_formats.Goals as goal

pub returns-in-Err-clause-err : goal.returns-in-Err-clause-err
returns-in-Err-clause-err c =
    refused_before c.args.profile (map string_bytes c.args.ignored.now) (map string_bytes c.args.words.now) c.in-Err.refused.word.now
    c.in-Err.refused.fault c.in-Err.ensures.err

pub returns-in-Err-formats_of-clause-err : goal.returns-in-Err-formats_of-clause-err
returns-in-Err-formats_of-clause-err c =
    refused_after c.args.strict c.args.profile (map string_bytes c.args.ignored.now) (map string_bytes c.args.words.now)
    c.in-Ok.formats.items
    c.in-Err-formats_of.refused.word.now c.in-Err-formats_of.refused.fault c.in-Ok.ensures.ok c.in-Err-formats_of.ensures.err
