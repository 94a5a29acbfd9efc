use Rattle.std.proofs.Common.{◌≡◌, ◌++◌, drop, map, string_bytes}
use Rattle.sf_words.specs.Hyphens.{clap_words, left_of}
use Rattle.sf_words.proofs.hyphens.clap_words.Given as goal

-- with what clap gets of the words that are left, they are what they are to be
abbrev pub invariant-loop-word : goal.invariant-loop-word
invariant-loop-word l =
    map string_bytes l.all.items ++ left_of l.next (map string_bytes (drop l.word-index l.words)) ≡ clap_words (map string_bytes l.words)
