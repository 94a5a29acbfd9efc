use Rattle.std.proofs.Common.{◌≡◌, length, drop}
use Rattle.sf_print.specs.texts.Visible.{without_blanks}
use Rattle.sf_print.proofs.texts.visible.visible_len.Given as goal

abbrev pub invariant-loop-byte : goal.invariant-loop-byte
invariant-loop-byte l = record {
  counted : l.len ≡ length (drop l.byte-index l.text);
  passed : without_blanks l.text ≡ without_blanks (drop l.byte-index l.text);
}
