use Rattle.std.proofs.Common.{◌≡◌, Err, ap, inr, subst, sym}
use Rattle.sf_arguments.specs.answer.Answers.{IsNoFormat}
use Rattle.sf_arguments.specs.declared.answer.answer.NoScanText.{NoScanText}
use Rattle.sf_messages.specs.declared.fault.CommandFault.{CommandFault}
use Rattle.sf_messages.specs.Faults.{format_fault}
use Rattle.sf_command.specs.jobs.Commands.{Counts}
use Rattle.sf_command.proofs.JobLemmas.Answering.{counts_is}
use Rattle.sf_command.proofs.JobLemmas.Checking.{no_answer}
use Rattle.sf_command.proofs.jobs.check.answer_format.Goals as goal

pub returns-in-Err-NoFormat-clause-answers : goal.returns-in-Err-NoFormat-clause-answers
returns-in-Err-NoFormat-clause-answers g c =
    let fault = c.in-Err-NoFormat.fault in
    let is : c.format_fault.result ≡ format_fault fault = cc in
    let due : IsNoFormat c.args.profile c.args.width c.args.print.now fault =
    c.in-Err-NoFormat.ensures.no_format fault (ap (λ (e : NoScanText). Err e) c.in-Err-NoFormat.field-0-is) in
    rw is (inr (inr (no_answer c.args.profile c.args.width c.args.print.now fault due)))

pub returns-in-Err-NoFormat-clause-failures : goal.returns-in-Err-NoFormat-clause-failures
returns-in-Err-NoFormat-clause-failures g c =
    let fault = c.in-Err-NoFormat.fault in
    let failures = g.K.Sink.failures c.args.out.now in
    let is : c.format_fault.result ≡ format_fault fault = cc in
    subst (λ (f : CommandFault). Counts failures failures (Err f)) (sym is) (counts_is fault failures)
