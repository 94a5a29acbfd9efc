use Rattle.std.proofs.Common.{◌∷◌, List, ℕ, string_bytes, subst, sym}
use Rattle.std.specs.Prelude.{IfErr}
use Rattle.sf_words.specs.declared.order.Verb.TheVariants as verb
use Rattle.sf_command.specs.jobs.Jobs.{IsNoJobBy}
use Rattle.sf_command.proofs.JobLemmas.Ones.{one_shown}
use Rattle.sf_command.proofs.jobs.job.copy_job_of.Goals as goal

pub returns-clause-err : goal.returns-clause-err
returns-clause-err c strict given =
    subst (λ (ts : List (List ℕ)). IfErr c.copy_job.result (λ refused. IsNoJobBy strict c.args.profile verb.Copy (c.args.one.now ∷ ts) given
    refused.word.now refused.fault))
    (sym (one_shown string_bytes c.args.rest.now c.index-rest-0.result c.as_str.result.now c.requires c.index-rest-0.is
    c.as_str.ensures.value)) c.copy_job.ensures.err
