use Rattle.std.proofs.Common.{◌+◌, ◌≤◌, List, ℕ, length, subst, sym, ◌∙◌}
use Rattle.std.specs.Prelude.{IsSome}
use Rattle.sf_print.proofs.InPlace.{written_as}
use Rattle.sf_print.proofs.TextLemmas.Fields.{field_text}
use Rattle.sf_print.proofs.in_place.write_padded_number.Goals as goal

pub returns-then-is_field_conv-clause-written : goal.returns-then-is_field_conv-clause-written
returns-then-is_field_conv-clause-written c =
    written_as c.write_around.result c.args.buf.now c.write_around.new.buf _ _ c.args.at
    (field_text c.args.conv.now c.args.number _ (sym c.is_field_conv.ensures ∙ c.if-is_field_conv.true)
    c.write_magnitude-start.ensures.written) c.write_around.ensures.written

pub returns-then-is_field_conv-clause-answers : goal.returns-then-is_field_conv-clause-answers
returns-then-is_field_conv-clause-answers c =
    subst (λ (t : List ℕ). c.args.at + length t + 21 ≤ length c.args.buf.now → IsSome c.write_around.result)
    (field_text c.args.conv.now c.args.number _ (sym c.is_field_conv.ensures ∙ c.if-is_field_conv.true)
    c.write_magnitude-start.ensures.written) c.write_around.ensures.answers
