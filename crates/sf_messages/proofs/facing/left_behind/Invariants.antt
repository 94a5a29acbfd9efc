use Rattle.std.proofs.Common.{◌≡◌, drop}
use Rattle.sf_messages.specs.Facing.{left_behind}
use Rattle.sf_messages.proofs.facing.left_behind.Given as goal

-- behind the directives that are left, what is left is what it is to be
abbrev pub invariant-loop-directive : goal.invariant-loop-directive
invariant-loop-directive l = left_behind (drop l.directive-index l.directives) l.left ≡ left_behind l.directives l.units
