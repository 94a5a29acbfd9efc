use Rattle.std.proofs.Common.{◌≡◌, ◌∷◌, ◌++◌, ◌+◌, [], drop, map, rules, string_bytes, subst, sym}
use Rattle.sf_messages.specs.declared.fault.CommandFault.TheVariants.{Memory}
use Rattle.sf_command.specs.jobs.Checks.{IsNoScanWord, IsReadWord}
use Rattle.sf_command.specs.jobs.LinesJobs.{IsFirstRefused}
use Rattle.sf_command.proofs.JobLemmas.LineWords.{Opened, all_opened, closed_at, opened_next, refused_at}
use Rattle.sf_command.proofs.jobs.job_of_lines.formats_of.Goals as goal

pub returns-in-Err-clause-err : goal.returns-in-Err-clause-err
returns-in-Err-clause-err c =
    let word = c.as_str-word.result.now in
    subst (λ w. IsFirstRefused c.args.profile (map string_bytes c.args.words.now) w c.in-Err.fault) (sym c.as_str-word.ensures.value)
    (closed_at string_bytes c.args.strict c.args.profile c.args.words.now c.loop-given.formats.items c.loop-given.given-index
    c.given-item.result
    c.loop-given-test.true c.given-item.is c.in-Err.fault
    (subst (λ w. IsNoScanWord c.args.profile w c.in-Err.fault) c.as_str-word.ensures.value c.in-Err.ensures.err) c.loop-given.invariant)

pub returns-then-is_err-clause-err : goal.returns-then-is_err-clause-err
returns-then-is_err-clause-err c =
    subst (λ w. IsFirstRefused c.args.profile (map string_bytes c.args.words.now) w Memory) (sym c.as_str-word.ensures.value)
    (refused_at string_bytes c.args.strict c.args.profile c.args.words.now c.loop-given.formats.items c.loop-given.given-index
    c.given-item.result
    c.loop-given-test.true c.given-item.is c.in-Ok.format
    (subst (λ w. IsReadWord c.args.strict c.args.profile w c.in-Ok.format) c.as_str-word.ensures.value c.in-Ok.ensures.ok)
    c.loop-given.invariant)

pub loop-given-preserved : goal.loop-given-preserved
loop-given-preserved c =
    let more = opened_next string_bytes c.args.strict c.args.profile c.args.words.now c.loop-given.formats.items c.loop-given.given-index
    c.given-item.result c.loop-given-test.true c.given-item.is c.in-Ok.format
    (subst (λ w. IsReadWord c.args.strict c.args.profile w c.in-Ok.format) c.as_str-word.ensures.value c.in-Ok.ensures.ok)
    c.loop-given.invariant in
    let pushed : c.push.new.self.items ≡ c.loop-given.formats.items ++ c.in-Ok.format ∷ [] = search rules in
    subst (Opened c.args.strict c.args.profile (map string_bytes c.args.words.now)
    (map string_bytes (drop (c.loop-given.given-index + 1) c.args.words.now))) (sym pushed) more

pub returns-clause-ok : goal.returns-clause-ok
returns-clause-ok c = all_opened string_bytes c.args.strict c.args.profile c.args.words.now c.loop-given.formats.items
    c.loop-given.given-index
    c.loop-given-test.false c.loop-given.invariant
