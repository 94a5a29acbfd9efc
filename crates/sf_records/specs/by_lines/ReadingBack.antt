-- What the loop over lines wrote reads back.
use Rattle.std.specs.Prelude.{◌≡◌, ◌<◌, ◌^◌, ℕ, Bool, List, [], ◌∷◌, length, map, Option, Some, None, Ok}
use Rattle.std.specs.List.{AllByRecursion, count_by}
use Rattle.sf_base.specs.Bytes.{AreBytes}
use Rattle.sf_base.specs.Data.{Datum}
use Rattle.sf_format.specs.declared.directive.Directive.{Directive}
use Rattle.sf_format.specs.Proper.{IsAccepted, destinations_of}
use Rattle.sf_forms.specs.Heads.{names_over}
use Rattle.sf_forms.specs.makers.Forms.{Heading, writing_under}
use Rattle.sf_read.specs.source.Ahead.{Ahead}
use Rattle.sf_run.specs.Rows.{FillsSlots, given_to}
use Rattle.sf_run.specs.Runs.{RunReport}
use Rattle.sf_records.specs.declared.by_lines.end.LineFault.{LineFault}
use Rattle.sf_records.specs.declared.by_lines.end.LinesEnd.{LinesEnd}
use Rattle.sf_records.specs.declared.by_lines.options.LinesOptions.{LinesOptions}
use Rattle.sf_records.specs.ReadingBack.{AreGivenRows, ReadsAs, columns_of, records_of}
use Rattle.sf_records.specs.by_lines.Loops.{Loops, is_written, lines_for, texts}
use Rattle.sf_records.specs.by_lines.Turns.{LineWork, Picks, Turn, fault_of, number_of, work_of}

-- the line matches the format with this number, which counts, and its run gave this to the slots
pub record GivesRow (w : LineWork) (line : List ℕ) (number : ℕ) (row : List (Option Datum)) : Type 0 where
  pub ds : List Directive
  pub report : RunReport
  pub picks : Picks w.options w.formats line ds report
  pub matches : fault_of w.options line report ≡ None
  pub number_is : number ≡ number_of picks
  pub fills : FillsSlots ds report.values
  pub row_is : row ≡ given_to (length (destinations_of ds)) report.values

-- the number of a format, and what its slots were given
abbrev pub LineRow : Type 0
LineRow = ℕ × List (Option Datum)

-- the rows are those of the lines that are written, one by one
abbrev pub AreLineRows : LineWork → List (List ℕ) → List Turn → List LineRow → Type 0
AreLineRows w lines [] rows = rows ≡ []
AreLineRows w [] (turn ∷ turns) rows = ⊥
AreLineRows w (line ∷ lines) (Some (Ok text) ∷ turns) [] = ⊥
AreLineRows w (line ∷ lines) (Some (Ok text) ∷ turns) (row ∷ rows) = GivesRow w line row.0 row.1 × AreLineRows w lines turns rows
AreLineRows w (line ∷ lines) (turn ∷ turns) rows = AreLineRows w lines turns rows

-- What was written of the lines that had their turn, under the heading, is the records of their rows, and reads back as these.
pub record LinesReadAsRows (h : Heading) (w : LineWork) (lines : List (List ℕ)) (done : List Turn) : Type 0 where
  pub rows : List LineRow
  pub are : AreLineRows w lines done rows
  pub count : length rows ≡ count_by is_written done
  pub values : AreGivenRows (map (λ row. row.1) rows)
  pub columns : List (List (Option Datum))
  pub columns_are : columns ≡ map (λ row. columns_of h row.0 row.1) rows
  pub text_is : texts done ≡ records_of h.form (names_over h) columns
  pub reads : ReadsAs h.form (names_over h) columns (records_of h.form (names_over h) columns)

-- so does what the loop over the lines of an input of bytes wrote, by accepted formats
abbrev pub LinesReadBack : {S : Type 0} → (S → Option (List ℕ)) → Type 0
LinesReadBack {S} to_come =
    (h : Heading) (options : LinesOptions) (ignored formats : List (List Directive)) (telling : ℕ → List ℕ → LineFault → List ℕ)
    → AllByRecursion IsAccepted formats → length formats < 2 ^ 64 → (t : List ℕ) → AreBytes t
    → (now : Ahead S) (failures failures' : ℕ) (before after : Option (List ℕ)) (silent : Bool) (told told' : Option (List ℕ))
    (answer : LinesEnd)
    (loop : Loops (work_of options ignored formats (writing_under h) telling) to_come t now failures failures' before after silent told
    told' answer)
    → LinesReadAsRows h (work_of options ignored formats (writing_under h) telling)
    (lines_for options.limit loop.failed loop.consumed t) loop.done
