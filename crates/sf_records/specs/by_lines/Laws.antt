-- Laws of lines.
use Rattle.std.specs.Prelude.{◌≡◌, ℕ, List}
use Rattle.sf_records.specs.by_lines.Turns.{AreScanned, LineWork, Turn}
use Rattle.sf_records.specs.by_lines.Loops.{AreTurns}

-- by formats that are accepted, of which one at least is tried, something comes of these lines, and nothing else
pub record HaveOneTurn (w : LineWork) (n : ℕ) (lines : List (List ℕ)) : Type 0 where
  pub turns : List Turn
  pub are : AreTurns w n lines turns
  pub only : (others : List Turn) → AreTurns w n lines others → others ≡ turns

abbrev pub LinesHaveOneTurn : Type 0
LinesHaveOneTurn = (w : LineWork) → AreScanned w → (n : ℕ) (lines : List (List ℕ)) → HaveOneTurn w n lines
