use Rattle.std.proofs.Common.{◌≡◌, ◌++◌, drop}
use Rattle.sf_messages.specs.Notes.{blanks}
use Rattle.sf_messages.proofs.notes.push_blanks.Given as goal

-- with a blank for each byte that is left, the output is what it is to be
abbrev pub invariant-loop-byte : goal.invariant-loop-byte
invariant-loop-byte l = l.output.items ++ blanks (drop l.byte-index l.bytes) ≡ l.fn.output.items ++ blanks l.bytes
