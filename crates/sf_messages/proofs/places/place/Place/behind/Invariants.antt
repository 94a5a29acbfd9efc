use Rattle.std.proofs.Common.{ℕ, List, ◌++◌, take}
use Rattle.sf_messages.specs.places.Behind.{IsBehind}
use Rattle.sf_messages.proofs.places.place.Place.behind.Given as goal

-- the place after the bytes so far
abbrev pub invariant-loop-byte : goal.invariant-loop-byte
invariant-loop-byte l = (before : List ℕ) → IsBehind before l.fn.self → IsBehind (before ++ take l.byte-index l.bytes) l.place
