use Rattle.std.proofs.Common.{◌≡◌, ◌++◌, ◌∷◌, ◌∙◌, [], OnOk, sym, subst}
use Rattle.sf_forms.proofs.Short.{plain_all}
use Rattle.sf_forms.proofs.quote.push_quoted.Goals as goal

pub returns-then-is_short_plain-clause-pushed : goal.returns-then-is_short_plain-clause-pushed
returns-then-is_short_plain-clause-pushed c =
    subst (λ text. OnOk c.push_short.result (c.push_short.new.output.items ≡ c.args.output.now.items ++ (34 ∷ (text ++ 34 ∷ []))))
    (sym (plain_all c.args.bytes.now (sym c.is_short_plain.ensures ∙ c.if-is_short_plain.true))) c.push_short.ensures.pushed
