use Rattle.std.proofs.Common.{inl, subst}
use Rattle.sf_messages.specs.declared.fault.CommandFault.TheVariants.{Pair}
use Rattle.sf_command.specs.jobs.Jobs.{IsJobBy, IsOwnFault}
use Rattle.sf_command.proofs.JobLemmas.Results.{if_ok}
use Rattle.sf_command.proofs.NoteLemmas.Explaining.{copy_says}
use Rattle.sf_command.proofs.notes.explain.of_pair_fault.Goals as goal

pub returns-in-Copy : goal.returns-in-Copy
returns-in-Copy c strict form print of texts is own =
    let here = subst (λ made. IsJobBy strict c.args.profile form print made of texts) c.in-Copy.is is in
    let fault = subst (λ made. IsOwnFault made (Pair c.args.fault)) c.in-Copy.is own in
    if_ok c.of_verdict.result _ _ (λ notes says. inl (copy_says c.args.profile strict form print c.in-Copy.print c.in-Copy.scan notes.items
    c.args.fault of texts here fault says)) c.of_verdict.ensures
