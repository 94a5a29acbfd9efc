use Rattle.std.proofs.Common.{◌≡◌, length}
use Rattle.sf_base.specs.Blanks.{trimmed_end}
use Rattle.sf_base.proofs.bytes.trimmed_end.Given as goal

abbrev pub invariant-loop-rest : goal.invariant-loop-rest
invariant-loop-rest l = trimmed_end l.rest ≡ trimmed_end l.fn.bytes

abbrev pub decreases-loop-rest : goal.decreases-loop-rest
decreases-loop-rest l = length l.rest
