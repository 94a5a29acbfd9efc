-- What is said of a line that has no row.
use Rattle.std.specs.Prelude.{ℕ, nat_lt, ◌+◌, ◌-◌, ◌/◌, ◌%◌, ◌==◌, ◌&&◌, Bool, true, false, if◌then◌else◌, List, [], ◌∷◌, ◌++◌, codes}
use Rattle.std.specs.List.{flat_map}
use Rattle.std.specs.Fmt.{decimal}
use Rattle.sf_run.specs.Wording.{outcome_text}
use Rattle.sf_loops.specs.declared.line_fault.LineFault.{LineFault}
use Rattle.sf_loops.specs.declared.line_fault.LineWhy.{LineWhy}
use Rattle.sf_loops.specs.declared.line_fault.LineWhy.TheVariants as why

-- ---- bytes that are shown

abbrev pub hex_digit : ℕ → ℕ
hex_digit d = if nat_lt d 10 then 48 + d else 97 + (d - 10)

-- printable ASCII as it stands; else its two digits of base 16
abbrev pub plain_byte : ℕ → List ℕ
plain_byte b = if nat_lt 31 b && nat_lt b 127 then b ∷ [] else codes "\\x" ++ hex_digit (b / 16) ∷ hex_digit (b % 16) ∷ []

abbrev pub shown_byte : ℕ → List ℕ
shown_byte b =
    if b == 9 then codes "\\t" else if b == 10 then codes "\\n" else if b == 13 then codes "\\r" else if b == 34 then codes "\\\"" else
    if b == 92 then codes "\\\\" else plain_byte b

-- between quotes
abbrev pub shown : List ℕ → List ℕ
shown bytes = 34 ∷ flat_map shown_byte bytes ++ 34 ∷ []

-- ---- faults

abbrev pub line_why_text : LineWhy → List ℕ
line_why_text (why.Failed outcome) = outcome_text outcome
line_why_text (why.LeftOver at) = codes "left over at " ++ decimal at
line_why_text why.TooLong = codes "too long"
line_why_text why.Read = codes "read fault"
line_why_text why.Endless = codes "endless"
line_why_text why.NoMemory = codes "out of memory"

-- the loop goes on after it, and the text of the line is shown
abbrev pub goes_on : LineWhy → Bool
goes_on (why.Failed outcome) = true
goes_on (why.LeftOver at) = true
goes_on why.TooLong = true
goes_on _ = false

abbrev pub line_fault_text : LineFault → List ℕ
line_fault_text fault = codes "line " ++ (decimal fault.number ++ (codes ": " ++ line_why_text fault.why))
    ++ (if goes_on fault.why then codes ": " ++ shown fault.text.items else [])
