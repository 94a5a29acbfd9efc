-- Loops that answer rows go on.
use Rattle.std.proofs.Common.{◌≡◌, ℕ, Bool, true, false, List, Option, Some, None, Result, Ok, Err, refl, sym, ap, ◌∙◌}
use Rattle.sf_base.specs.Data.{Datum}
use Rattle.sf_base.specs.declared.values.Kind.{Kind}
use Rattle.sf_loops.specs.declared.fault.RecordFault.{RecordFault}
use Rattle.sf_loops.specs.declared.line_fault.LineFault.{LineFault}
use Rattle.sf_loops.specs.Lines.{IsNextLine, IsNextLineRow, LineLoop, LineRowAnswers}
use Rattle.sf_loops.specs.Loops.{ended_with}
use Rattle.sf_loops.proofs.LinesInTurn.{comes_true}

-- ---- records

-- a loop that answers a row has not ended before
pub still : {T : Type 0} (over : Option (Option RecordFault)) (same : Option RecordFault → Type 0) (result : Result (Option T) RecordFault)
    (row : T) → ((end : Option RecordFault) → over ≡ Some end → same end × (result ≡ ended_with None end)) → result ≡ Ok (Some row)
    → over ≡ None
still None same result row law is = refl
still (Some None) same result row law is = absurd (let e = sym is ∙ (law None refl).1 in cc)
still (Some (Some fault)) same result row law is = absurd (let e = sym is ∙ (law (Some fault) refl).1 in cc)

-- ---- lines

line_row_goes : {S T : Type 0} (to_come : S → Option (List ℕ)) (reads failures : S → ℕ) (N : ℕ) (kinds : List Kind)
    (given : T → List (Option Datum)) (old advanced new : LineLoop S) (turn : Result Bool LineFault) (row : T)
    → IsNextLine to_come reads failures N old advanced turn → LineRowAnswers kinds given advanced new turn (Ok (Some row))
    → new.over ≡ None
line_row_goes {S} to_come reads failures N kinds given old advanced new (Ok true) row next (same, slots) =
    let all = comes_true to_come old advanced next.read next.text next.reading next.comes in
    ap (λ (l : LineLoop S). l.over) same ∙ all.goes.over_is
line_row_goes to_come reads failures N kinds given old advanced new (Ok false) row next h = absurd h
line_row_goes to_come reads failures N kinds given old advanced new (Err fault) row next h = absurd h

pub line_goes : {S T : Type 0} (to_come : S → Option (List ℕ)) (reads failures : S → ℕ) (N : ℕ) (kinds : List Kind)
    (given : T → List (Option Datum)) (old new : LineLoop S) (row : T)
    → IsNextLineRow to_come reads failures N kinds given old new (Ok (Some row)) → new.over ≡ None
line_goes to_come reads failures N kinds given old new row next =
    line_row_goes to_come reads failures N kinds given old next.advanced new next.turn row next.is next.answers
