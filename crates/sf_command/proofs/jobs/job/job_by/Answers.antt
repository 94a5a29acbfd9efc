use Rattle.std.proofs.Common.{◌≡◌, ◌∙◌, ◌≤◌, ◌∷◌, ℕ, List, ap, drop, length, map, string_bytes, subst, sym}
use Rattle.std.specs.Prelude.{IfErr, option_map}
use Rattle.sf_words.specs.declared.order.Verb.{Verb}
use Rattle.sf_words.specs.declared.order.Verb.TheVariants as verb
use Rattle.sf_command.specs.jobs.Jobs.{IsNoJobBy}
use Rattle.sf_command.proofs.JobLemmas.Results.{if_err}
use Rattle.sf_command.proofs.JobLemmas.Working.{first_shown, rest_of_check, rest_of_copy, show_none}
use Rattle.sf_command.proofs.jobs.job.job_by.Goals as goal

pub returns-in-Show-clause-err : goal.returns-in-Show-clause-err
returns-in-Show-clause-err c =
    let order = c.args.order.now in
    let texts = map string_bytes order.texts.items in
    let given = option_map string_bytes order.print in
    let word : List ℕ = c.as_str-word.result.now in
    let shown : texts ≡ word ∷ map string_bytes (drop 1 c.as_slice.result.now) =
    ap (map string_bytes) (sym c.as_slice.ensures.value) ∙ first_shown string_bytes c.as_slice.result.now c.word-item.result word
    c.in-len1-up.len_at_least c.word-item.is c.as_str-word.ensures.value in
    if_err c.show_job.result _ _ (λ refused none. show_none order.strict c.args.profile order.verb texts _ word given refused.word.now
    refused.fault
    c.in-Show.is shown c.requires none) (c.show_job.ensures.err order.strict given)

pub returns-in-Print-clause-err : goal.returns-in-Print-clause-err
returns-in-Print-clause-err c =
    let order = c.args.order.now in
    let texts = map string_bytes order.texts.items in
    let given = option_map string_bytes order.print in
    let word : List ℕ = c.as_str-word.result.now in
    let more = map string_bytes (drop 1 c.as_slice.result.now) in
    let shown : texts ≡ word ∷ more =
    ap (map string_bytes) (sym c.as_slice.ensures.value) ∙ first_shown string_bytes c.as_slice.result.now c.word-item.result word
    c.in-len1-up.len_at_least c.word-item.is c.as_str-word.ensures.value in
    subst (λ (of : Verb). IfErr c.print_job.result (λ refused. IsNoJobBy order.strict c.args.profile of texts given refused.word.now
    refused.fault))
    (sym c.in-Print.is)
    (subst (λ (ts : List (List ℕ)). IfErr c.print_job.result (λ refused. IsNoJobBy order.strict c.args.profile verb.Print ts given
    refused.word.now
    refused.fault)) (sym shown) (c.print_job.ensures.err order.strict given more))

-- the words are shown by the first and those after it
pub check_job_of-requires : goal.check_job_of-requires
check_job_of-requires c = subst (λ (ts : List _). length ts ≤ 1) (sym (c.after_first-rest.ensures ∙ ap (drop 1) c.deref.ensures.value))
    (rest_of_check string_bytes c.args.order.now.verb c.args.order.now.texts.items c.in-Check.is c.requires)

pub copy_job_of-requires : goal.copy_job_of-requires
copy_job_of-requires c = subst (λ (ts : List _). length ts ≡ 1) (sym (c.after_first-rest.ensures ∙ ap (drop 1) c.deref.ensures.value))
    (rest_of_copy string_bytes c.args.order.now.verb c.args.order.now.texts.items c.in-Copy.is c.requires)

pub returns-in-Check-clause-err : goal.returns-in-Check-clause-err
returns-in-Check-clause-err c =
    let order = c.args.order.now in
    let texts = map string_bytes order.texts.items in
    let given = option_map string_bytes order.print in
    let word : List ℕ = c.as_str-word.result.now in
    let rest : c.after_first-rest.result.now ≡ drop 1 c.as_slice.result.now =
    c.after_first-rest.ensures ∙ ap (drop 1) (c.deref.ensures.value ∙ sym c.as_slice.ensures.value) in
    let shown : texts ≡ word ∷ map string_bytes c.after_first-rest.result.now =
    ap (map string_bytes) (sym c.as_slice.ensures.value) ∙ first_shown string_bytes c.as_slice.result.now c.word-item.result word
    c.in-len1-up.len_at_least c.word-item.is c.as_str-word.ensures.value
    ∙ ap (λ (ts : List _). word ∷ map string_bytes ts) (sym rest) in
    subst (λ (of : Verb). IfErr c.check_job_of.result (λ refused. IsNoJobBy order.strict c.args.profile of texts given refused.word.now
    refused.fault)) (sym c.in-Check.is)
    (subst (λ (ts : List (List ℕ)). IfErr c.check_job_of.result (λ refused. IsNoJobBy order.strict c.args.profile verb.Check ts given
    refused.word.now refused.fault)) (sym shown) (c.check_job_of.ensures.err order.strict given))

pub returns-in-Copy-clause-err : goal.returns-in-Copy-clause-err
returns-in-Copy-clause-err c =
    let order = c.args.order.now in
    let texts = map string_bytes order.texts.items in
    let given = option_map string_bytes order.print in
    let word : List ℕ = c.as_str-word.result.now in
    let rest : c.after_first-rest.result.now ≡ drop 1 c.as_slice.result.now =
    c.after_first-rest.ensures ∙ ap (drop 1) (c.deref.ensures.value ∙ sym c.as_slice.ensures.value) in
    let shown : texts ≡ word ∷ map string_bytes c.after_first-rest.result.now =
    ap (map string_bytes) (sym c.as_slice.ensures.value) ∙ first_shown string_bytes c.as_slice.result.now c.word-item.result word
    c.in-len1-up.len_at_least c.word-item.is c.as_str-word.ensures.value
    ∙ ap (λ (ts : List _). word ∷ map string_bytes ts) (sym rest) in
    subst (λ (of : Verb). IfErr c.copy_job_of.result (λ refused. IsNoJobBy order.strict c.args.profile of texts given refused.word.now
    refused.fault)) (sym c.in-Copy.is)
    (subst (λ (ts : List (List ℕ)). IfErr c.copy_job_of.result (λ refused. IsNoJobBy order.strict c.args.profile verb.Copy ts given
    refused.word.now refused.fault)) (sym shown) (c.copy_job_of.ensures.err order.strict given))
