use Rattle.std.proofs.Common.{◌≡◌, ◌∙◌, ◌++◌, List, Option, Some, ℕ, ap, append_assoc}
use Rattle.std.specs.Prelude.{codes}
use Rattle.sf_messages.specs.Facing.{print_head_text, width_given}
use Rattle.sf_messages.specs.shown.Shown.{field_text}
use Rattle.sf_messages.proofs.facing.push_print_conv.Goals as goal

four_written : (old a b c d first second third fourth : List ℕ) → first ≡ old ++ a → second ≡ first ++ b → third ≡ second ++ c
    → fourth ≡ third ++ d
    → fourth ≡ old ++ (a ++ (b ++ (c ++ d)))
four_written old a b c d first second third fourth e f g h =
    h ∙ ap (λ x. x ++ d) (g ∙ ap (λ x. x ++ c) (f ∙ ap (λ x. x ++ b) e))
    ∙ append_assoc ((old ++ a) ++ b) c d ∙ append_assoc (old ++ a) b (c ++ d) ∙ append_assoc old a (b ++ (c ++ d))

pub returns : goal.returns
returns c =
    let conv = c.args.conv.now in
    let width = λ (n : Option ℕ). field_text (codes " width ") n in
    let precision = λ (n : Option ℕ). field_text (codes " precision ") n in
    let slot = λ (n : ℕ). field_text (codes " slot ") (Some n) in
    four_written c.args.output.now.items (print_head_text conv) (width (width_given conv.width)) (precision conv.precision) (slot conv.slot)
    c.push_print_head.new.output.items c.push_field.new.output.items c.push_field-2.new.output.items c.push_field-3.new.output.items
    c.in_ok-push_print_head.ensures
    (c.in_ok-push_field.ensures ∙ ap (λ n. c.push_print_head.new.output.items ++ width n) c.width_given.ensures)
    (c.in_ok-push_field-2.ensures ∙ ap (λ n. c.push_field.new.output.items ++ precision n) c.precision_given.ensures)
    (c.in_ok-push_field-3.ensures ∙ ap (λ n. c.push_field-2.new.output.items ++ slot n) c.from.ensures)
