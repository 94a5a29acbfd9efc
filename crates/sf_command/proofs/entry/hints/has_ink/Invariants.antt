use Rattle.std.proofs.Common.{◌≡◌, drop}
use Rattle.sf_command.specs.entry.Hints.{has_ink}
use Rattle.sf_command.proofs.entry.hints.has_ink.Given as goal

-- the bytes that are left say it
abbrev pub invariant-loop-b : goal.invariant-loop-b
invariant-loop-b l = has_ink (drop l.b-index l.text) ≡ has_ink l.text
