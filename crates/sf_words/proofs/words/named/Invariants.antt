use Rattle.std.proofs.Common.{◌≡◌, ◌∷◌, ◌++◌, codes, map, drop, string_bytes}
use Rattle.clap.specs.Walk.{texts}
use Rattle.sf_words.proofs.words.named.Given as goal

-- with the words that are left, they are what they are to be
abbrev pub invariant-loop-word : goal.invariant-loop-word
invariant-loop-word l = texts l.all.items ++ map string_bytes (drop l.word-index l.words) ≡ codes "sf" ∷ map string_bytes l.words
