use Rattle.std.proofs.Common.{◌≡◌, ◌∙◌, Bool, true, string_bytes, subst, sym}
use Rattle.std.specs.List.{list_any}
use Rattle.sf_command.specs.jobs.Heads.{is_headed}
use Rattle.sf_command.specs.entry.Hints.{has_failed, has_ink, has_percent, is_anchored, passed_by}
use Rattle.sf_command.proofs.entry.hints.passed_hint.Goals as goal

pub returns-then-is_headed : goal.returns-then-is_headed
returns-then-is_headed c =
    let order = c.args.order.now in
    let said = c.hint_of_words.result.now in
    let headed : is_headed order.file ≡ true = sym c.is_headed.ensures ∙ c.if-is_headed.true in
    let by_answer = subst (λ (failed : Bool). said
    ≡ passed_by (list_any (λ word. is_anchored (string_bytes word)) c.deref.result.now) failed
    (list_any (λ word. has_percent (string_bytes word)) c.deref.result.now)
    (list_any (λ word. has_ink (string_bytes word)) c.deref.result.now)) c.has_failed.ensures c.hint_of_words.ensures in
    let by_words = subst (λ (words : _). said ≡ passed_by (list_any (λ word. is_anchored (string_bytes word)) words)
    (has_failed c.args.answer) (list_any (λ word. has_percent (string_bytes word)) words)
    (list_any (λ word. has_ink (string_bytes word)) words)) c.deref.ensures.value by_answer in
    rw c.if-explain.true (rw headed by_words)
