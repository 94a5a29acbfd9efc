use Rattle.std.proofs.Common.{rules}
use Rattle.sf_format.specs.Faults.{IsPrintRefused}
use Rattle.sf_arguments.specs.Escapes.{Unescapes}
use Rattle.sf_command.proofs.JobLemmas.Checking.{no_print_format}
use Rattle.sf_command.proofs.jobs.formats.read_print.Goals as goal

pub returns-clause-err : goal.returns-clause-err
returns-clause-err c =
    let stands : Unescapes c.args.word.now c.deref.result.now = search rules in
    let refused : IsPrintRefused c.args.profile c.deref.result.now c.in-Err.fault = c.in-Err.ensures.refused in
    rw c.print_format_fault.ensures (no_print_format c.args.profile c.args.word.now c.deref.result.now c.in-Err.fault stands refused)
