use Rattle.std.proofs.Common.{◌≡◌, ◌∙◌, ◌∷◌, [], ℕ, List, ap, map, string_bytes, subst, sym}
use Rattle.std.specs.Prelude.{IfErr, IfOk}
use Rattle.sf_command.specs.jobs.Commands.{grammar_of}
use Rattle.sf_command.specs.jobs.CopyFormats.{AreCopies, AreCopyFormats, AreNoCopies}
use Rattle.sf_command.specs.jobs.Jobs.{AreNoTwo}
use Rattle.sf_command.proofs.JobLemmas.Ones.{two_shown}
use Rattle.sf_command.proofs.jobs.copy_formats.prepare_copies.Goals as goal

pub returns-clause-ok : goal.returns-clause-ok
returns-clause-ok c =
    let order = c.args.order.now in
    let print : List ℕ = c.as_str.result.now in
    let scan : List ℕ = c.as_str-2.result.now in
    let read = c.read_copy_formats.result in
    let shown : map string_bytes order.texts.items ≡ print ∷ scan ∷ [] =
    ap (map string_bytes) (sym c.as_slice.ensures.value)
    ∙ two_shown string_bytes c.as_slice.result.now c.print-item.result c.scan-item.result print scan
    c.in-len2.len_at_least c.in-len2.len_below c.print-item.is c.scan-item.is c.as_str.ensures.value c.as_str-2.ensures.value in
    subst (λ (texts : List (List ℕ)). IfOk read (AreCopies (grammar_of order.profile) texts)) (sym shown)
    (subst (λ p. IfOk read (AreCopyFormats p print scan)) c.grammar_of-profile.ensures c.read_copy_formats.ensures.ok)

pub returns-clause-err : goal.returns-clause-err
returns-clause-err c =
    let order = c.args.order.now in
    let print : List ℕ = c.as_str.result.now in
    let scan : List ℕ = c.as_str-2.result.now in
    let read = c.read_copy_formats.result in
    let shown : map string_bytes order.texts.items ≡ print ∷ scan ∷ [] =
    ap (map string_bytes) (sym c.as_slice.ensures.value)
    ∙ two_shown string_bytes c.as_slice.result.now c.print-item.result c.scan-item.result print scan
    c.in-len2.len_at_least c.in-len2.len_below c.print-item.is c.scan-item.is c.as_str.ensures.value c.as_str-2.ensures.value in
    subst (λ (texts : List (List ℕ)). IfErr read (λ refused. AreNoCopies (grammar_of order.profile) texts refused.word.now
    refused.fault)) (sym shown)
    (subst (λ p. IfErr read (λ refused. AreNoTwo p print scan refused.word.now refused.fault)) c.grammar_of-profile.ensures
    c.read_copy_formats.ensures.err)
