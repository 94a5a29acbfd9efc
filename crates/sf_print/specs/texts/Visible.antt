-- The text of an integer as a scan sees it: without the blanks before it.
use Rattle.std.specs.Prelude.{ℕ, ℤ, pos, ◌==◌, if◌then◌else◌, List, [], ◌∷◌}
use Rattle.sf_format.specs.declared.unit.PrintConv.{PrintConv}
use Rattle.sf_print.specs.texts.Text.{integer_text}

abbrev pub without_blanks : List ℕ → List ℕ
without_blanks [] = []
without_blanks (b ∷ bs) = if b == 32 then without_blanks bs else b ∷ bs

abbrev pub visible : PrintConv → ℤ → List ℕ
visible c z = without_blanks (integer_text c z)

-- that of 0, the shortest
abbrev pub least : PrintConv → List ℕ
least c = visible c (pos 0)
