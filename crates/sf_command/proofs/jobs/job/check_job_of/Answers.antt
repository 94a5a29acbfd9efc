use Rattle.std.proofs.Common.{◌≡◌, ◌∷◌, List, ℕ, arith, length, string_bytes, subst, sym}
use Rattle.std.specs.Prelude.{IfErr}
use Rattle.sf_words.specs.declared.order.Verb.TheVariants as verb
use Rattle.sf_command.specs.jobs.Jobs.{IsNoJobBy}
use Rattle.sf_command.proofs.JobLemmas.Ones.{one_shown}
use Rattle.sf_command.proofs.JobLemmas.Working.{none_shown}
use Rattle.sf_command.proofs.jobs.job.check_job_of.Goals as goal

pub returns-in-empty-clause-err : goal.returns-in-empty-clause-err
returns-in-empty-clause-err c strict given =
    subst (λ (ts : List (List ℕ)). IfErr c.answer_job.result (λ refused. IsNoJobBy strict c.args.profile verb.Check (c.args.one.now ∷ ts)
    given
    refused.word.now refused.fault)) (sym (none_shown string_bytes c.args.rest.now c.in-empty.len_below))
    (c.answer_job.ensures.err strict given)

pub returns-in-len1-up-clause-err : goal.returns-in-len1-up-clause-err
returns-in-len1-up-clause-err c strict given =
    let one : length c.args.rest.now ≡ 1 = omega (arith, c.requires, c.in-len1-up.len_at_least) in
    subst (λ (ts : List (List ℕ)). IfErr c.check_job.result (λ refused. IsNoJobBy strict c.args.profile verb.Check (c.args.one.now ∷ ts)
    given
    refused.word.now refused.fault))
    (sym (one_shown string_bytes c.args.rest.now c.other-item.result c.as_str.result.now one c.other-item.is c.as_str.ensures.value))
    c.check_job.ensures.err
