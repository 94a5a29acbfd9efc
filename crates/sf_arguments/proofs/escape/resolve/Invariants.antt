use Rattle.std.proofs.Common.{◌≤◌, ◌-◌, length}
use Rattle.sf_arguments.specs.Escapes.{Stands}
use Rattle.sf_arguments.proofs.escape.resolve.Given as goal

abbrev pub invariant-loop-at : goal.invariant-loop-at
invariant-loop-at l = record { within : l.at ≤ length l.word; read : Stands l.word l.at l.bytes.items }

abbrev pub decreases-loop-at : goal.decreases-loop-at
decreases-loop-at l = length l.word - l.at
