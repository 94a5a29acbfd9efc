-- The answers of a loop, one after the other, are the records of its input.
use Rattle.std.specs.Prelude.{◌≡◌, ◌++◌, ℕ, List, [], ◌∷◌, drop, length, Option, Some, None, Ok}
use Rattle.std.specs.List.{concat}
use Rattle.std.specs.Io.KnownBytes.{Consumes}
use Rattle.sf_base.specs.Data.{Datum}
use Rattle.sf_base.specs.declared.values.Kind.{Kind}
use Rattle.sf_format.specs.declared.directive.Directive.{Directive}
use Rattle.sf_run.specs.outcome.Ending.TheVariants.{End}
use Rattle.sf_run.specs.Limits.{RunTold}
use Rattle.sf_run.specs.Runs.{RunReport}
use Rattle.sf_read.specs.field.Rows.{AreSlotsOf}
use Rattle.sf_read.specs.source.Ahead.{input_of}
use Rattle.sf_read.specs.Reads.{counted_by}
use Rattle.sf_read.specs.Scan.{MayFollow}
use Rattle.sf_loops.specs.declared.turn.Turn.TheVariants.{Goes}
use Rattle.sf_loops.specs.Loops.{IsNextRow, Loop}
use Rattle.sf_loops.specs.Turns.{turn_of}

-- these rows were answered, one after the other, and the loop goes on
abbrev pub AnswersInTurn : {S T : Type 0} → (S → Option (List ℕ)) → (S → ℕ) → (S → ℕ) → ℕ → List Kind → (T → List (Option Datum)) → Loop S →
    List T
    → Loop S → Type 0
AnswersInTurn to_come reads failures N kinds given old [] new = old ≡ new
AnswersInTurn {S} to_come reads failures N kinds given old (row ∷ rows) new =
    (mid : Loop S) × IsNextRow to_come reads failures N kinds given old mid (Ok (Some row)) × (mid.over ≡ None)
    × AnswersInTurn to_come reads failures N kinds given mid rows new

-- these rows are the records of the input t, by runs of at most m bytes, each of what the one before it left; `left` is left
abbrev pub AreRecords : {T : Type 0} → List Kind → (T → List (Option Datum)) → List Directive → ℕ → List ℕ → List T → List ℕ → Type 0
AreRecords kinds given ds m t [] left = t ≡ left
AreRecords kinds given ds m t (row ∷ rows) left =
    (r : RunReport) × RunTold ds m t End r × (turn_of ds r ≡ Goes) × AreSlotsOf (length kinds) (given row) r.values
    × AreRecords kinds given ds m (drop r.used t) rows left

-- whatever the blocks in which the input came
abbrev pub AnswersAreRecords : {S T : Type 0} → (S → Option (List ℕ)) → (S → ℕ) → (S → ℕ) → ℕ → List Kind → (T → List (Option Datum)) → Type
    0
AnswersAreRecords {S} {T} to_come reads failures N kinds given =
    (old new : Loop S) (rows : List T) → AnswersInTurn to_come reads failures N kinds given old rows new
    → (t : List ℕ) → input_of to_come old.ahead ≡ Some t
    → (left : List ℕ) × AreRecords kinds given old.format old.limit t rows left × (input_of to_come new.ahead ≡ Some left)

-- ---- whatever the source says of itself

-- the blocks that the reads of these answers gave
abbrev pub blocks_in_turn : {S T : Type 0} (to_come : S → Option (List ℕ)) (reads failures : S → ℕ) (N : ℕ) (kinds : List Kind)
    (given : T → List (Option Datum)) (old : Loop S) (rows : List T) (new : Loop S)
    → AnswersInTurn to_come reads failures N kinds given old rows new → List (List ℕ)
blocks_in_turn to_come reads failures N kinds given old [] new answers = []
blocks_in_turn to_come reads failures N kinds given old (row ∷ rows) new (mid, next, goes_on, more) =
    next.is.run.made.reads_are.blocks ++ blocks_in_turn to_come reads failures N kinds given mid rows new more

-- the loop has answered these rows, and its reads gave these blocks
pub record AreRecordsRead {S T : Type 0} (to_come : S → Option (List ℕ)) (reads : S → ℕ) (kinds : List Kind)
    (given : T → List (Option Datum)) (old new : Loop S) (rows : List T) (blocks : List (List ℕ)) : Type 0 where
  -- a block for each read; where the source shows its bytes, the blocks are the first of them
  pub count : reads new.ahead.source ≡ counted_by (length blocks) (reads old.ahead.source)
  pub taken : Consumes (to_come old.ahead.source) (to_come new.ahead.source) (concat blocks)
  -- however the input goes on: the rows are the first records of what was held and then of the blocks; what is held now is left
  pub records : (z : List ℕ) → MayFollow new.ahead z End
      → AreRecords kinds given old.format old.limit (old.ahead.held ++ concat blocks ++ z) rows (new.ahead.held ++ z)

abbrev pub ReadsAreRecords : {S T : Type 0} → (S → Option (List ℕ)) → (S → ℕ) → (S → ℕ) → ℕ → List Kind → (T → List (Option Datum)) → Type 0
ReadsAreRecords {S} {T} to_come reads failures N kinds given =
    (old new : Loop S) (rows : List T) (answers : AnswersInTurn to_come reads failures N kinds given old rows new)
    → AreRecordsRead to_come reads kinds given old new rows (blocks_in_turn to_come reads failures N kinds given old rows new answers)
