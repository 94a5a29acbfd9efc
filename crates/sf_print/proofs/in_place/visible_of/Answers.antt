use Rattle.std.proofs.Common.{sym, ap, ◌∙◌}
use Rattle.sf_print.specs.declared.texts.piece.Piece.{Piece}
use Rattle.sf_print.specs.texts.Runs.{piece_bytes}
use Rattle.sf_print.specs.texts.Visible.{without_blanks}
use Rattle.sf_print.proofs.TextLemmas.Blanks.{blank_run}
use Rattle.sf_print.proofs.in_place.visible_of.Goals as goal

pub returns-in-Run-eq32-default : goal.returns-in-Run-eq32-default
returns-in-Run-eq32-default c =
    let v = c.in-Run-eq32-default in
    blank_run v.field-0 v.field-1 (sym v.field-0-is ∙ v.field-0-test) ∙ sym (ap (λ (p : Piece). without_blanks (piece_bytes p)) v.is)
