-- The lines of a text (C11 7.21.2p2): each is ended by byte 10, which is no part of it; the last one may lack that.
use Rattle.std.specs.Prelude.{◌≡◌, ◌==◌, ℕ, false, if◌then◌else◌, List, [], ◌∷◌, ◌++◌}
use Rattle.std.specs.List.{AllByRecursion, flat_map}
use Rattle.sf_run.specs.outcome.Ending.{Ending}
use Rattle.sf_run.specs.outcome.Ending.TheVariants.{End, Fault}

-- no byte is a newline
abbrev pub IsLine : List ℕ → Type 0
IsLine line = AllByRecursion (λ b. (b == 10) ≡ false) line

-- the byte before the first of these lines; where there is none, it begins the last line of a text that ends so
abbrev pub begun_by : ℕ → List (List ℕ) → Ending → List (List ℕ)
begun_by b (line ∷ lines) ending = (b ∷ line) ∷ lines
begun_by b [] End = (b ∷ []) ∷ []
begun_by b [] Fault = []

-- The lines of a text. After its last newline stands one more, unless nothing does (End), or a read failed there
-- (Fault).
abbrev pub lines_by : Ending → List ℕ → List (List ℕ)
lines_by ending [] = []
lines_by ending (b ∷ rest) = if b == 10 then [] ∷ lines_by ending rest else begun_by b (lines_by ending rest) ending

abbrev pub lines_of : List ℕ → List (List ℕ)
lines_of text = lines_by End text

-- the lines with their newlines, joined
abbrev pub joined : List (List ℕ) → List ℕ
joined lines = flat_map (λ line. line ++ 10 ∷ []) lines
