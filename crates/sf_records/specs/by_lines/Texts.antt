-- The texts for a line that fails, and for why the lines of an input stopped before its end.
use Rattle.std.specs.Prelude.{ℕ, List, ◌++◌, codes}
use Rattle.std.specs.Fmt.{decimal}
use Rattle.sf_run.specs.Wording.{outcome_text}
use Rattle.sf_records.specs.declared.by_lines.end.LineFault.{LineFault}
use Rattle.sf_records.specs.declared.by_lines.end.LineFault.TheVariants.{Failed, LeftOver, TooLong, Unfit}
use Rattle.sf_records.specs.declared.by_lines.end.LinesFault.{LinesFault}
use Rattle.sf_records.specs.declared.by_lines.end.LinesFault.TheVariants.{Read, Write, Memory, TooMany}

-- without the number of the line
abbrev pub line_fault_text : LineFault → List ℕ
line_fault_text (Failed outcome) = outcome_text outcome
line_fault_text (LeftOver at) = codes "left over at " ++ decimal at
line_fault_text TooLong = codes "too long"
line_fault_text Unfit = codes "values do not fit"

abbrev pub lines_fault_text : LinesFault → List ℕ
lines_fault_text (Read line) = codes "line " ++ (decimal line ++ codes ": read fault")
lines_fault_text Write = codes "write fault"
lines_fault_text Memory = codes "out of memory"
lines_fault_text TooMany = codes "too many lines"
