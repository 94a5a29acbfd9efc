use Rattle.std.proofs.Common.{◌≡◌, drop}
use Rattle.sf_messages.specs.Sentences.{is_float_after}
use Rattle.sf_messages.proofs.sentences.is_float_after.Given as goal

-- the bytes that are left say it
abbrev pub invariant-loop-b : goal.invariant-loop-b
invariant-loop-b l = is_float_after (drop l.b-index l.rest) ≡ is_float_after l.rest
