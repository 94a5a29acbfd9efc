use Rattle.std.proofs.Common.{◌≡◌, drop}
use Rattle.sf_base.specs.Blanks.{trimmed_front}
use Rattle.sf_pair.proofs.columns.trimmed.Given as goal

abbrev pub invariant-loop-i : goal.invariant-loop-i
invariant-loop-i l = trimmed_front l.bytes ≡ trimmed_front (drop l.i l.bytes)
