-- The items that a `for` over the records, or the lines, of an input is given.
use Rattle.std.specs.Prelude.{◌≡◌, ◌+◌, ◌-◌, ◌⊎◌, true, ℕ, List, Option, Some, None, Result, Ok, Err, if◌then◌else◌}
use Rattle.sf_base.specs.Data.{Datum}
use Rattle.sf_base.specs.declared.values.Kind.{Kind}
use Rattle.sf_read.specs.source.Ahead.{Ahead}
use Rattle.sf_loops.specs.declared.fault.RecordFault.{RecordFault}
use Rattle.sf_loops.specs.declared.line_fault.LineFault.{LineFault}
use Rattle.sf_loops.specs.declared.line_fault.LineStop.{LineStop}
use Rattle.sf_loops.specs.Counts.{AnswersNext}
use Rattle.sf_loops.specs.Lines.{IsNextLineRow, LineEndedWith, LineLoop}
use Rattle.sf_loops.specs.LineTexts.{goes_on}
use Rattle.sf_loops.specs.Loops.{Loop}

-- the most items: 2^64 - 1
abbrev pub most_items : ℕ
most_items = 18446744073709551615

-- where the loop stands, and the most items that are left
pub record RecordsLeft (S : Type 0) : Type 0 where
  pub now : Loop S
  pub left : ℕ

pub record LinesLeft (S : Type 0) : Type 0 where
  pub now : LineLoop S
  pub left : ℕ

-- a source that has reported its end is not read, and it stays so
pub record StaysAtEnd {S : Type 0} (old new : Ahead S) : Type 0 where
  pub no_read : old.at_end ≡ true → new.source ≡ old.source
  pub stays : old.at_end ≡ true → new.at_end ≡ true

-- An item is what `next` answers: a row, after which the items go on; or a fault, which is the last one. None is the end, or the most
-- items were given. A source that has reported its end is not read.
abbrev pub GivesRecord : {S T : Type 0} → (S → Option (List ℕ)) → (S → ℕ) → (S → ℕ) → ℕ → List Kind → (T → List (Option Datum)) →
    RecordsLeft S
    → Option (Result T RecordFault) → RecordsLeft S → Type 0
GivesRecord to_come reads failures N kinds given old (Some (Ok row)) new =
    AnswersNext to_come reads failures N kinds given old.now new.now (Ok (Some row)) × (new.left + 1 ≡ old.left)
    × StaysAtEnd old.now.ahead new.now.ahead
GivesRecord to_come reads failures N kinds given old (Some (Err fault)) new =
    AnswersNext to_come reads failures N kinds given old.now new.now (Err fault) × (new.left ≡ 0)
    × StaysAtEnd old.now.ahead new.now.ahead
GivesRecord to_come reads failures N kinds given old None new =
    ((old.left ≡ 0) × (new ≡ old)) ⊎ (AnswersNext to_come reads failures N kinds given old.now new.now (Ok None) × (new.left ≡ 0)
    × StaysAtEnd old.now.ahead new.now.ahead)

-- `next` has answered so, in a loop over lines that goes on or has ended
pub record AnswersNextLine {S T : Type 0} (to_come : S → Option (List ℕ)) (reads failures : S → ℕ) (N : ℕ) (kinds : List Kind)
    (given : T → List (Option Datum)) (now new : LineLoop S) (result : Result (Option T) LineFault) : Type 0 where
  pub over : (end : Option LineStop) → now.over ≡ Some end → (new ≡ now) × LineEndedWith None end result
  pub next : now.over ≡ None → IsNextLineRow to_come reads failures N kinds given now new result

-- The same of lines: after the fault of a line that is no match, or is too long, the items go on.
abbrev pub GivesLine : {S T : Type 0} → (S → Option (List ℕ)) → (S → ℕ) → (S → ℕ) → ℕ → List Kind → (T → List (Option Datum)) → LinesLeft S
    → Option (Result T LineFault) → LinesLeft S → Type 0
GivesLine to_come reads failures N kinds given old (Some (Ok row)) new =
    AnswersNextLine to_come reads failures N kinds given old.now new.now (Ok (Some row)) × (new.left + 1 ≡ old.left)
    × StaysAtEnd old.now.ahead new.now.ahead
GivesLine to_come reads failures N kinds given old (Some (Err fault)) new =
    AnswersNextLine to_come reads failures N kinds given old.now new.now (Err fault)
    × (new.left ≡ (if goes_on fault.why then old.left - 1 else 0))
    × StaysAtEnd old.now.ahead new.now.ahead
GivesLine to_come reads failures N kinds given old None new =
    ((old.left ≡ 0) × (new ≡ old)) ⊎ (AnswersNextLine to_come reads failures N kinds given old.now new.now (Ok None) × (new.left ≡ 0)
    × StaysAtEnd old.now.ahead new.now.ahead)
