use Rattle.std.proofs.Common.{rules}
use Rattle.sf_format.specs.Faults.{IsRefused}
use Rattle.sf_arguments.specs.Escapes.{Unescapes}
use Rattle.sf_command.proofs.JobLemmas.Checking.{no_scan_format}
use Rattle.sf_command.proofs.jobs.formats.read_scan.Goals as goal

pub returns-in-Ok-clause-ok : goal.returns-in-Ok-clause-ok
returns-in-Ok-clause-ok c =
    let stands : Unescapes c.args.word.now c.deref.result.now = search rules in
    (c.deref.result.now, stands, (c.in-Ok.format, c.in-Ok.ensures.spelled, c.as_read.ensures))

pub returns-clause-err : goal.returns-clause-err
returns-clause-err c =
    let stands : Unescapes c.args.word.now c.deref.result.now = search rules in
    let refused : IsRefused c.args.profile c.deref.result.now c.in-Err.fault = c.in-Err.ensures.refused in
    rw c.format_fault.ensures (no_scan_format c.args.profile c.args.word.now c.deref.result.now c.in-Err.fault stands refused)
