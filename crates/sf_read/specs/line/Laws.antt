-- Laws of lines.
use Rattle.std.specs.Prelude.{◌≡◌, ◌<◌, ◌⊎◌, ℕ, List, [], ◌∷◌, ◌++◌, length}
use Rattle.std.specs.List.{AllByRecursion}
use Rattle.sf_run.specs.outcome.Ending.{Ending}
use Rattle.sf_run.specs.outcome.Ending.TheVariants.{Fault}
use Rattle.sf_read.specs.line.Cut.{IsLine, lines_by, lines_of, joined}

-- a line is cut off with its newline; the last one may lack that where the text ends, and not where a read failed
pub record IsCutOff (line : List ℕ) : Type 0 where
  pub first : (ending : Ending) (rest : List ℕ) → lines_by ending (line ++ 10 ∷ rest) ≡ line ∷ lines_by ending rest
  pub last : 0 < length line → lines_of line ≡ line ∷ []
  pub failed : lines_by Fault line ≡ []

abbrev pub EachLineIsCut : Type 0
EachLineIsCut = (line : List ℕ) → IsLine line → IsCutOff line

abbrev pub LinesAreJoined : Type 0
LinesAreJoined = (lines : List (List ℕ)) → AllByRecursion IsLine lines → lines_of (joined lines) ≡ lines

abbrev pub TextsAreCut : Type 0
TextsAreCut = (text : List ℕ) → AllByRecursion IsLine (lines_of text)
    × ((joined (lines_of text) ≡ text) ⊎ (joined (lines_of text) ≡ text ++ 10 ∷ []))
