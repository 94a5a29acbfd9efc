use Rattle.std.proofs.Common.{◌≡◌, ◌++◌, ◌∷◌, [], List, ℕ, Some, ap, ◌∙◌, append_assoc}
use Rattle.std.specs.Prelude.{codes}
use Rattle.sf_messages.specs.shown.Shown.{field_text}
use Rattle.sf_messages.proofs.shown.shown.push_summary.Goals as goal

three_written : (old a b c first second third : List ℕ) → first ≡ old ++ a → second ≡ first ++ b → third ≡ second ++ c
    → third ≡ old ++ (a ++ (b ++ c))
three_written old a b c first second third e f g =
    g ∙ ap (λ x. x ++ c) (f ∙ ap (λ x. x ++ b) e) ∙ append_assoc (old ++ a) b c ∙ append_assoc old a (b ++ c)

pub returns : goal.returns
returns c =
    three_written c.args.output.now.items (field_text (codes "destinations ") (Some c.args.destinations))
    (field_text (codes ", width sum ") c.args.sum) (10 ∷ [])
    c.push_field.new.output.items c.push_field-2.new.output.items c.push_text.new.output.items
    (c.in_ok-push_field.ensures ∙ ap (λ (n : ℕ). c.args.output.now.items ++ field_text (codes "destinations ") (Some n)) c.from.ensures)
    c.in_ok-push_field-2.ensures c.in_ok-push_text.ensures
