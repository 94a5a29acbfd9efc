-- What is said of a line of the input that is no match.
use Rattle.std.specs.Prelude.{ℕ, List, ◌++◌, codes}
use Rattle.std.specs.Fmt.{decimal}
use Rattle.sf_records.specs.declared.by_lines.end.LineFault.{LineFault}
use Rattle.sf_records.specs.by_lines.Texts as lines

-- a line that is no match, by its number
abbrev pub line_fault_text : ℕ → LineFault → List ℕ
line_fault_text number fault = codes "sf: line " ++ (decimal number ++ (codes ": " ++ lines.line_fault_text fault))
