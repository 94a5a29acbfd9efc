use Rattle.std.proofs.Common.{inl, subst}
use Rattle.std.specs.Prelude.{IfOk}
use Rattle.sf_command.specs.jobs.Jobs.{IsJobBy}
use Rattle.sf_command.specs.notes.Explains.{MaySay}
use Rattle.sf_command.proofs.JobLemmas.Results.{if_ok}
use Rattle.sf_command.proofs.NoteLemmas.Explaining.{answer_says, check_says}
use Rattle.sf_command.proofs.notes.explain.of_clean_end.Goals as goal

pub returns-in-Check : goal.returns-in-Check
returns-in-Check c strict form print of texts is =
    let here = subst (λ made. IsJobBy strict c.args.profile form print made of texts) c.in-Check.is is in
    if_ok c.of_verdict.result _ _ (λ notes says. inl (check_says c.args.profile strict form print c.in-Check.print c.in-Check.scan
    notes.items
    c.args.width c.in-Check.verdict of texts here says)) c.of_verdict.ensures

pub returns-in-Answer : goal.returns-in-Answer
returns-in-Answer c strict form print of texts is =
    let here = subst (λ made. IsJobBy strict c.args.profile form print made of texts) c.in-Answer.is is in
    answer_says c.args.profile strict form print c.in-Answer.print c.args.width
    (λ says. IfOk c.of_answer.result (λ notes. MaySay says notes.items)) of texts here c.of_answer.ensures
