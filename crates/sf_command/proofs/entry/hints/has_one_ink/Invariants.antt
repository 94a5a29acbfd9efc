use Rattle.std.proofs.Common.{◌≡◌, drop, string_bytes}
use Rattle.std.specs.List.{list_any}
use Rattle.sf_command.specs.entry.Hints.{has_ink}
use Rattle.sf_command.proofs.entry.hints.has_one_ink.Given as goal

-- the words that are left say it
abbrev pub invariant-loop-word : goal.invariant-loop-word
invariant-loop-word l =
    list_any (λ word. has_ink (string_bytes word)) (drop l.word-index l.words)
    ≡ list_any (λ word. has_ink (string_bytes word)) l.words
