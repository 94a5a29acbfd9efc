-- The room that is made for the texts of lines.
use Rattle.std.specs.Prelude.{ℕ, max, List, [], ◌∷◌, unwrap_or}
use Rattle.sf_format.specs.declared.directive.Directive.{Directive}
use Rattle.sf_format.specs.Widths.{width_sum}

-- the bytes that a format stores at most, where it has a sum of widths; else those of some short texts
abbrev pub width_of : List Directive → ℕ
width_of ds = unwrap_or (width_sum ds) 64

-- the greatest of these
abbrev pub most_width : List (List Directive) → ℕ
most_width [] = 0
most_width (ds ∷ later) = max (width_of ds) (most_width later)
