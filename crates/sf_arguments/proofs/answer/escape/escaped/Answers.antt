use Rattle.std.proofs.Common.{List, ℕ, sym, subst, ◌∙◌, ap, arith}
use Rattle.std.proofs.lemmas.List.{take_all}
use Rattle.sf_arguments.specs.Escapes.{Unescapes}
use Rattle.sf_arguments.specs.answer.Escaped.{AreShown, escaped}
use Rattle.sf_arguments.proofs.AnswerLemmas.Escapes.{unescapes, are_shown, all_bytes}
use Rattle.sf_arguments.proofs.answer.escape.escaped.Goals as goal

pub returns-clause-bytes : goal.returns-clause-bytes
returns-clause-bytes c =
    subst (λ (word : List ℕ). Unescapes word c.args.bytes.now) (sym (c.loop-b.invariant ∙ ap escaped
    (take_all c.loop-b.b-index c.args.bytes.now (omega (arith, c.loop-b-test.false, c.loop-b.auto.b-index-end)))))
    (unescapes c.args.bytes.now (all_bytes c.args.bytes.now (λ i. omega (arith, c.type_inv.bytes i))))

pub returns-clause-shown : goal.returns-clause-shown
returns-clause-shown c =
    subst AreShown (sym (c.loop-b.invariant ∙ ap escaped
    (take_all c.loop-b.b-index c.args.bytes.now (omega (arith, c.loop-b-test.false, c.loop-b.auto.b-index-end)))))
    (are_shown c.args.bytes.now (all_bytes c.args.bytes.now (λ i. omega (arith, c.type_inv.bytes i))))
