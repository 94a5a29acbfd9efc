-- The name of a file in front of what is said of it.
use Rattle.std.specs.Prelude.{ℕ, List, ◌++◌, Option, Some, None, codes, drop, map, option_and_then, slice_get, string_bytes}
use Rattle.sf_words.specs.declared.order.Order.{Order}

-- the name of the file that is read, as it was given, if one is
abbrev pub file_name : Order → Option (List ℕ)
file_name order = option_and_then (λ place. slice_get (map string_bytes order.files.items) place) order.file

-- the line, with the name after its first four bytes, `sf: `
abbrev pub in_front : Option (List ℕ) → List ℕ → List ℕ
in_front None line = line
in_front (Some name) line = (codes "sf: " ++ name) ++ (codes ": " ++ drop 4 line)
