-- What `next` answers, of a loop that is known by another name.
use Rattle.std.proofs.Common.{◌≡◌, ℕ, List, Option, Result, Ok, Err, true, subst, sym}
use Rattle.std.specs.Prelude.{IfOk}
use Rattle.sf_base.specs.Data.{Datum}
use Rattle.sf_base.specs.declared.values.Kind.{Kind}
use Rattle.sf_read.specs.source.Ahead.{Ahead}
use Rattle.sf_loops.specs.declared.fault.RecordFault.{RecordFault}
use Rattle.sf_loops.specs.declared.line_fault.LineFault.{LineFault}
use Rattle.sf_loops.specs.Counts.{AnswersNext}
use Rattle.sf_loops.specs.Items.{AnswersNextLine, StaysAtEnd}
use Rattle.sf_loops.specs.Lines.{LineLoop}
use Rattle.sf_loops.specs.Loops.{Loop}

pub answers_by : {S T : Type 0} (to_come : S → Option (List ℕ)) (reads failures : S → ℕ) (N : ℕ)
    (kinds : List Kind) (listed : T → List (Option Datum))
    (was old new : Loop S) (result : Result (Option T) RecordFault) → was ≡ old
    → AnswersNext to_come reads failures N kinds listed was new result → AnswersNext to_come reads failures N kinds listed old new result
answers_by {S} to_come reads failures N kinds listed was old new result same h =
    subst (λ (l : Loop S). AnswersNext to_come reads failures N kinds listed l new result) same h

pub line_answers_by : {S T : Type 0} (to_come : S → Option (List ℕ)) (reads failures : S → ℕ) (N : ℕ) (kinds : List Kind)
    (listed : T → List (Option Datum)) (was old new : LineLoop S) (result : Result (Option T) LineFault) → was ≡ old
    → AnswersNextLine to_come reads failures N kinds listed was new result
    → AnswersNextLine to_come reads failures N kinds listed old new result
line_answers_by {S} to_come reads failures N kinds listed was old new result same h =
    subst (λ (l : LineLoop S). AnswersNextLine to_come reads failures N kinds listed l new result) same h

-- the same where there is a row, or the end
pub row_by : {S T : Type 0} (to_come : S → Option (List ℕ)) (reads failures : S → ℕ) (N : ℕ)
    (kinds : List Kind) (listed : T → List (Option Datum))
    (was old new : Loop S) (found row : Option T) → was ≡ old → found ≡ row
    → AnswersNext to_come reads failures N kinds listed was new (Ok found)
    → AnswersNext to_come reads failures N kinds listed old new (Ok row)
row_by to_come reads failures N kinds listed was old new found row same is h =
    answers_by to_come reads failures N kinds listed was old new (Ok row) same
    (subst (λ o. AnswersNext to_come reads failures N kinds listed was new (Ok o)) is h)

pub line_row_by : {S T : Type 0} (to_come : S → Option (List ℕ)) (reads failures : S → ℕ) (N : ℕ) (kinds : List Kind)
    (listed : T → List (Option Datum)) (was old new : LineLoop S) (found row : Option T) → was ≡ old → found ≡ row
    → AnswersNextLine to_come reads failures N kinds listed was new (Ok found)
    → AnswersNextLine to_come reads failures N kinds listed old new (Ok row)
line_row_by to_come reads failures N kinds listed was old new found row same is h =
    line_answers_by to_come reads failures N kinds listed was old new (Ok row) same
    (subst (λ o. AnswersNextLine to_come reads failures N kinds listed was new (Ok o)) is h)

-- nor is its source read after the end
pub stays_by : {S : Type 0} (was old new : Ahead S) → was ≡ old → (was.at_end ≡ true → new.source ≡ was.source)
    → (was.at_end ≡ true → new.at_end ≡ true) → StaysAtEnd old new
stays_by {S} was old new same no_read stays =
    subst (λ (a : Ahead S). StaysAtEnd a new) same (record { no_read = no_read; stays = stays })

-- of a loop that goes on from there with what is held and to come unchanged
pub end_kept : {S : Type 0} (was old now new : Ahead S) → was ≡ old → new ≡ now → (was.at_end ≡ true → now.source ≡ was.source)
    → (was.at_end ≡ true → now.at_end ≡ true) → StaysAtEnd old new
end_kept {S} was old now new same is no_read stays =
    subst (λ (a : Ahead S). StaysAtEnd old a) (sym is) (stays_by was old now same no_read stays)

-- ---- a loop that was made over bytes that were read ahead

pub by_ahead : {S L E : Type 0} (P : Ahead S → Type 0) (ahead : L → Ahead S) (from : Ahead S) (result : Result L E) → P from
    → IfOk result (λ l. ahead l ≡ from) → IfOk result (λ l. P (ahead l))
by_ahead P ahead from (Ok l) own is = subst P (sym is) own
by_ahead P ahead from (Err e) own is = tt
