use Rattle.std.proofs.Common.{◌≡◌, drop}
use Rattle.sf_print.specs.texts.Visible.{without_blanks}
use Rattle.sf_print.proofs.texts.visible.visible_bytes.Given as goal

abbrev pub invariant-loop-i : goal.invariant-loop-i
invariant-loop-i l = without_blanks l.text ≡ without_blanks (drop l.i l.text)
