-- A piece that was handed to a sink.
use Rattle.std.specs.Prelude.{◌≡◌, ◌<◌, ℕ, ◌+◌, List, ◌++◌, length, Option, Result, Ok, Err}
use Rattle.std.specs.Io.KnownBytes.{Appends}

-- The sink took all of the piece, or where it failed a front of it, and not all. The number is how many bytes it took by then.
abbrev pub Hands : Option (List ℕ) → Option (List ℕ) → List ℕ → ℕ → Result ℕ ℕ → Type 0
Hands old new piece before (Ok now) = Appends old new piece × (now ≡ before + length piece)
Hands old new piece before (Err now) =
    (front : List ℕ) × (rest : List ℕ) × (piece ≡ front ++ rest) × Appends old new front × (now ≡ before + length front) × (0 < length rest)
