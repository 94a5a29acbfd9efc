use Rattle.std.proofs.Common.{ℕ, length, replicate, sym, ap, ◌∙◌}
use Rattle.sf_print.specs.declared.texts.piece.Piece.{Piece}
use Rattle.sf_print.specs.texts.Runs.{piece_bytes}
use Rattle.sf_print.specs.texts.Visible.{without_blanks}
use Rattle.sf_print.proofs.TextLemmas.Blanks.{without_all}
use Rattle.sf_print.proofs.texts.visible.visible_piece.Goals as goal

pub returns-in-Run-eq32-default : goal.returns-in-Run-eq32-default
returns-in-Run-eq32-default c =
    let v = c.in-Run-eq32-default in
    sym (ap (λ (p : Piece). length (without_blanks (piece_bytes p))) v.is
    ∙ ap length (ap (λ (b : ℕ). without_blanks (replicate v.field-1 b)) (sym v.field-0-is ∙ v.field-0-test) ∙ without_all v.field-1))
