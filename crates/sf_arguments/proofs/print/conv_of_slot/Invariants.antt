use Rattle.std.proofs.Common.{◌≡◌, drop}
use Rattle.sf_arguments.specs.Arguments.{conv_at}
use Rattle.sf_arguments.proofs.print.conv_of_slot.Given as goal

abbrev pub invariant-loop-unit : goal.invariant-loop-unit
invariant-loop-unit l = conv_at l.units l.slot ≡ conv_at (drop l.unit-index l.units) l.slot
