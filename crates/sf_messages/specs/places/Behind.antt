-- Places in an input: lines are ended by byte 10 (C11 7.21.2p2), and lines and the bytes of a line are counted from 1.
use Rattle.std.specs.Prelude.{◌≡◌, ◌==◌, ◌⊎◌, ◌+◌, ◌-◌, ◌^◌, ℕ, min, false, List, [], ◌∷◌, ◌++◌, length}
use Rattle.std.specs.List.{AllByRecursion, count_by}
use Rattle.sf_messages.specs.declared.places.place.Place.{Place}

-- a number as it is kept: up to the greatest number of 64 bits
abbrev pub kept_to : ℕ → ℕ
kept_to n = min n (2 ^ 64 - 1)

-- nothing, or whole lines
abbrev pub AreLines : List ℕ → Type 0
AreLines text = (text ≡ []) ⊎ ((front : List ℕ) × (text ≡ front ++ 10 ∷ []))

-- no byte is a newline
abbrev pub IsLine : List ℕ → Type 0
IsLine line = AllByRecursion (λ b. (b == 10) ≡ false) line

-- the place is that of the byte after these
pub record IsBehind (bytes : List ℕ) (place : Place) : Type 0 where
  -- the bytes are whole lines, and the begin of one
  pub lines : List ℕ
  pub line : List ℕ
  pub all : bytes ≡ lines ++ line
  pub ended : AreLines lines
  pub unended : IsLine line
  pub number : place.line ≡ kept_to (count_by (λ b. b == 10) bytes + 1)
  pub column : place.column ≡ kept_to (length line + 1)
