use Rattle.std.proofs.Common.{◌≡◌, true, take, map}
use Rattle.sf_base.specs.Data.{datum_of}
use Rattle.sf_print.specs.Short.{are_short}
use Rattle.sf_print.proofs.print.are_short.Given as goal

abbrev pub invariant-loop-value : goal.invariant-loop-value
invariant-loop-value l = are_short (map datum_of (take l.value-index l.values)) ≡ true
