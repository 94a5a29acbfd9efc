-- Columns by their place, counted from 1.
use Rattle.std.specs.Prelude.{ℕ, ◌-◌, ◌++◌, nat_eq, if◌then◌else◌, get_or, List, [], map}
use Rattle.std.specs.Borrow.{Bor}
use Rattle.std.specs.Fmt.{decimal}

-- the texts behind references
abbrev pub texts : List (Bor (List ℕ)) → List (List ℕ)
texts = map (λ text. text.now)

-- the name of a column, or an empty one
abbrev pub name_at : List (List ℕ) → ℕ → List ℕ
name_at names column = get_or names (column - 1) []

-- the number of a format, and the texts of the columns after it
abbrev pub tagged_column : ℕ → (ℕ → List ℕ) → ℕ → List ℕ
tagged_column number others column = if nat_eq column 1 then decimal number else others (column - 1)

-- the text of a column, after what stands before it
abbrev pub after_head : (ℕ → List ℕ) → (ℕ → List ℕ) → ℕ → List ℕ
after_head heads text column = heads column ++ text column
