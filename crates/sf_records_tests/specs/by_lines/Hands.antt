-- What the writer and the teller of the tests make of a line.
use Rattle.std.specs.Prelude.{ℕ, ◌+◌, ◌%◌, ◌++◌, ◌∷◌, true, List, [], Option, Some}
use Rattle.sf_base.specs.Data.{Datum, Bytes, datum_at}
use Rattle.sf_forms.specs.makers.Works.{Work}
use Rattle.sf_run.specs.Runs.{RunReport}
use Rattle.sf_records.specs.declared.by_lines.end.LineFault.{LineFault}
use Rattle.sf_records.specs.declared.by_lines.end.LineFault.TheVariants.{Failed, LeftOver, TooLong, Unfit}

abbrev pub bytes_in : Option Datum → List ℕ
bytes_in (Some (Bytes bytes)) = bytes
bytes_in _ = []

-- the text of slot 1, and a line end
abbrev pub first_line : RunReport → List ℕ
first_line report = bytes_in (datum_at 1 report.values) ++ 10 ∷ []

-- which is written of each line
abbrev pub writing_first : Work
writing_first = record { fits = λ r. true; text = first_line }

abbrev pub letter_of : LineFault → ℕ
letter_of (Failed outcome) = 109
letter_of (LeftOver at) = 108
letter_of TooLong = 116
letter_of Unfit = 117

-- the first byte, or a hyphen
abbrev pub first_of : List ℕ → ℕ
first_of [] = 45
first_of (b ∷ rest) = b

-- the last digit of the line's number, a letter for why it fails, and its first byte
abbrev pub note_of : ℕ → List ℕ → LineFault → List ℕ
note_of number line fault = (48 + number % 10) ∷ letter_of fault ∷ first_of line ∷ []
