use Rattle.std.proofs.Common.{◌≡◌, length}
use denote.Shadow.{shadow}
use denote.Text.{Utf8}
use Rattle.clap.specs.Walk.{texts}
use Rattle.sf_words.specs.Orders.{last_text}
use Rattle.sf_words.proofs.misuse.last_text.Given as goal

-- the last of the texts that are left, or the one before them, is the last of all
abbrev pub invariant-loop-rest : goal.invariant-loop-rest
invariant-loop-rest l = shadow (Utf8 l.last) × (last_text l.last (texts l.rest) ≡ last_text l.other (texts l.given))

abbrev pub decreases-loop-rest : goal.decreases-loop-rest
decreases-loop-rest l = length l.rest
