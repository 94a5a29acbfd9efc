use Rattle.std.proofs.Common.{◌≡◌, take}
use Rattle.sf_messages.specs.Joined.{joined}
use Rattle.sf_messages.proofs.wording.joined.Given as goal

-- the texts before
abbrev pub invariant-loop-text : goal.invariant-loop-text
invariant-loop-text l = l.line.bytes ≡ joined (take l.text-index l.texts)
