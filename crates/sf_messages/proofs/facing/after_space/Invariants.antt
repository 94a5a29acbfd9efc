use Rattle.std.proofs.Common.{◌≡◌, drop}
use Rattle.sf_pair.specs.Walk.{after_space}
use Rattle.sf_messages.proofs.facing.after_space.Given as goal

abbrev pub invariant-loop-i : goal.invariant-loop-i
invariant-loop-i l = after_space l.units ≡ after_space (drop l.i l.units)
