-- The answers of a loop over lines, one after the other, are those of the lines of its input.
use Rattle.std.specs.Prelude.{◌≡◌, ◌≤◌, ◌<◌, ◌++◌, ℕ, Bool, true, false, List, [], ◌∷◌, length, take, Option, Some, None, Result, Ok, Err}
use Rattle.sf_base.specs.Data.{Datum}
use Rattle.sf_base.specs.declared.values.Kind.{Kind}
use Rattle.sf_format.specs.declared.directive.Directive.{Directive}
use Rattle.sf_run.specs.outcome.Ending.TheVariants.{End}
use Rattle.sf_run.specs.outcome.Status.{Status}
use Rattle.sf_run.specs.outcome.Status.TheVariants.{Done, NoMemory}
use Rattle.sf_run.specs.Limits.{RunTold}
use Rattle.sf_run.specs.Runs.{RunReport}
use Rattle.sf_read.specs.field.Rows.{AreSlotsOf}
use Rattle.sf_read.specs.source.Ahead.{input_of}
use Rattle.sf_read.specs.source.Counts.{counted_on}
use Rattle.sf_read.specs.line.Cut.{lines_of}
use Rattle.sf_read.specs.declared.matching.Match.{Match}
use Rattle.sf_read.specs.Matches.{leaves}
use Rattle.sf_loops.specs.declared.line_fault.LineFault.{LineFault}
use Rattle.sf_loops.specs.declared.line_fault.LineWhy.{LineWhy}
use Rattle.sf_loops.specs.declared.line_fault.LineWhy.TheVariants as why
use Rattle.sf_loops.specs.Lines.{IsNextLineRow, LineLoop}
use Rattle.sf_loops.specs.Turns.{outcome_of}

-- a row, or a fault
abbrev pub LineAnswer : Type 0 → Type 0
LineAnswer T = Result T LineFault

-- as `next` answers it
abbrev pub answered : {T : Type 0} → LineAnswer T → Result (Option T) LineFault
answered (Ok row) = Ok (Some row)
answered (Err fault) = Err fault

-- these were answered, one after the other, and the loop goes on
abbrev pub LinesInTurn : {S T : Type 0} → (S → Option (List ℕ)) → (S → ℕ) → (S → ℕ) → ℕ → List Kind → (T → List (Option Datum)) → LineLoop S
    → List (LineAnswer T) → LineLoop S → Type 0
LinesInTurn to_come reads failures N kinds given old [] new = old ≡ new
LinesInTurn {S} to_come reads failures N kinds given old (answer ∷ answers) new =
    (mid : LineLoop S) × IsNextLineRow to_come reads failures N kinds given old mid (answered answer) × (mid.over ≡ None)
    × LinesInTurn to_come reads failures N kinds given mid answers new

-- a run that is no match
abbrev pub is_miss : Status → Bool
is_miss Done = false
is_miss NoMemory = false
is_miss _ = true

-- why this line, of which this was kept, has no row: it is longer than m bytes, or the run over it is no match; or that leaves some of it
-- which a match has to use
abbrev pub IsMissBy : List Directive → ℕ → Match → List ℕ → List ℕ → LineWhy → Type 0
IsMissBy ds m matching line text why.TooLong = (m < length line) × (text ≡ take m line)
IsMissBy ds m matching line text (why.Failed outcome) =
    (length line ≤ m) × (text ≡ line)
    × ((r : RunReport) × RunTold ds m line End r × (is_miss r.status ≡ true) × (outcome ≡ outcome_of r))
IsMissBy ds m matching line text (why.LeftOver at) =
    (length line ≤ m) × (text ≡ line)
    × ((r : RunReport) × RunTold ds m line End r × (r.status ≡ Done) × (leaves matching Done r.used (length line) ≡ true) × (at ≡ r.used))
IsMissBy ds m matching line text _ = ⊥

-- the answer for the line with this number
abbrev pub IsAnswerOf : {T : Type 0} → List Kind → (T → List (Option Datum)) → List Directive → ℕ → Match → ℕ → List ℕ → LineAnswer T
    → Type 0
IsAnswerOf kinds given ds m matching number line (Ok row) =
    (length line ≤ m)
    × ((r : RunReport) × RunTold ds m line End r × (r.status ≡ Done) × (leaves matching Done r.used (length line) ≡ false)
    × AreSlotsOf (length kinds) (given row) r.values)
IsAnswerOf kinds given ds m matching number line (Err fault) =
    (fault.number ≡ number) × IsMissBy ds m matching line fault.text.items fault.why

-- an answer for each of these lines, which come after so many others
abbrev pub AreAnswersOf : {T : Type 0} → List Kind → (T → List (Option Datum)) → List Directive → ℕ → Match → ℕ → List (List ℕ) → List
    (LineAnswer T)
    → Type 0
AreAnswersOf kinds given ds m matching before [] [] = Unit {0}
AreAnswersOf kinds given ds m matching before (line ∷ lines) (answer ∷ answers) =
    IsAnswerOf kinds given ds m matching (counted_on before) line answer
    × AreAnswersOf kinds given ds m matching (counted_on before) lines answers
AreAnswersOf kinds given ds m matching before _ _ = ⊥

-- the answers are those of the first lines of the input t, whatever the blocks in which it came; the other lines are left
abbrev pub AnswersAreLines : {S T : Type 0} → (S → Option (List ℕ)) → (S → ℕ) → (S → ℕ) → ℕ → List Kind → (T → List (Option Datum)) → Type 0
AnswersAreLines {S} {T} to_come reads failures N kinds given =
    (old new : LineLoop S) (answers : List (LineAnswer T)) → LinesInTurn to_come reads failures N kinds given old answers new
    → (t : List ℕ) → input_of to_come old.ahead ≡ Some t
    → (lines : List (List ℕ)) × (left : List ℕ) × (lines_of t ≡ lines ++ lines_of left) × (input_of to_come new.ahead ≡ Some left)
    × AreAnswersOf kinds given old.format old.limit old.matching old.read lines answers

-- where None comes after these answers, they are those of all lines of the input t
abbrev pub NoneIsTheEnd : {S T : Type 0} → (S → Option (List ℕ)) → (S → ℕ) → (S → ℕ) → ℕ → List Kind → (T → List (Option Datum)) → Type 0
NoneIsTheEnd {S} {T} to_come reads failures N kinds given =
    (old mid new : LineLoop S) (answers : List (LineAnswer T)) → LinesInTurn to_come reads failures N kinds given old answers mid
    → IsNextLineRow to_come reads failures N kinds given mid new (Ok None)
    → (t : List ℕ) → input_of to_come old.ahead ≡ Some t
    → AreAnswersOf kinds given old.format old.limit old.matching old.read (lines_of t) answers
