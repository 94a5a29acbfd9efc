use Rattle.std.proofs.Common.{◌≡◌, length}
use Rattle.sf_words.specs.Hyphens.{letters_ask}
use Rattle.sf_words.proofs.hyphens.letters_ask.Given as goal

abbrev pub invariant-loop-rest : goal.invariant-loop-rest
invariant-loop-rest l = letters_ask l.rest ≡ letters_ask l.letters

abbrev pub decreases-loop-rest : goal.decreases-loop-rest
decreases-loop-rest l = length l.rest
