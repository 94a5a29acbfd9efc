use Rattle.std.proofs.Common.{◌≡◌, take}
use Rattle.sf_arguments.specs.answer.Escaped.{escaped}
use Rattle.sf_arguments.proofs.answer.escape.escaped.Given as goal

abbrev pub invariant-loop-b : goal.invariant-loop-b
invariant-loop-b l = l.word.items ≡ escaped (take l.b-index l.bytes)
