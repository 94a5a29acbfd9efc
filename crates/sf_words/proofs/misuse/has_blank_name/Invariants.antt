use Rattle.std.proofs.Common.{◌≡◌, length}
use Rattle.sf_words.specs.Orders.{has_blank_after, has_blank_name}
use Rattle.sf_words.proofs.misuse.has_blank_name.Given as goal

-- the bytes that are left, and the one before them, say it
abbrev pub invariant-loop-rest : goal.invariant-loop-rest
invariant-loop-rest l = has_blank_after l.before l.rest ≡ has_blank_name l.names

abbrev pub decreases-loop-rest : goal.decreases-loop-rest
decreases-loop-rest l = length l.rest
