-- The rows of a loop over lines.
use Rattle.std.proofs.Common.{◌≡◌, ℕ, Bool, true, false, List, Option, Some, None, Result, Ok, Err, refl, sym, ap, subst, ◌∙◌}
use Rattle.sf_base.specs.Data.{Datum}
use Rattle.sf_base.specs.declared.values.Kind.{Kind}
use Rattle.sf_format.specs.Proper.{IsAccepted}
use Rattle.sf_run.specs.outcome.Ending.TheVariants.{End}
use Rattle.sf_read.specs.field.Rows.{AreGivenAs}
use Rattle.sf_read.specs.RowScans.{HasShape}
use Rattle.sf_read.proofs.Shapes.{given}
use Rattle.sf_loops.specs.declared.line_fault.LineFault.{LineFault}
use Rattle.sf_loops.specs.declared.line_fault.LineStop.{LineStop}
use Rattle.sf_loops.specs.Lines.{IsNextLine, IsNextLineRow, LineEndedWith, LineLoop, LineRowAnswers}
use Rattle.sf_loops.proofs.LinesInTurn.{IsReported, comes_true}

-- a loop that has ended
abbrev pub StaysEnded : {S : Type 0} → LineLoop S → LineLoop S → Result Bool LineFault → Type 0
StaysEnded was new result = (end : Option LineStop) → was.over ≡ Some end → (new ≡ was) × LineEndedWith false end result

-- has no line
never_true : (end : Option LineStop) (result : Result Bool LineFault) → LineEndedWith false end result → result ≡ Ok true → ⊥
never_true None result h e = let never = sym e ∙ h in cc
never_true (Some stop) (Ok b) h e = h
never_true (Some stop) (Err fault) h e = cc

-- the answer true comes of a run that is Done
pub reported : {S : Type 0} {to_come : S → Option (List ℕ)} {reads failures : S → ℕ} {N : ℕ} (old new : LineLoop S)
    (result : Result Bool LineFault) → StaysEnded old new result → (old.over ≡ None → IsNextLine to_come reads failures N old new result)
    → result ≡ Ok true → (text : List ℕ) × IsReported to_come old new text
reported {to_come = to_come} {reads = reads} {failures = failures} {N = N} old new result over next e = by old.over refl
  where
    by : (o : Option (Option LineStop)) → old.over ≡ o → (text : List ℕ) × IsReported to_come old new text
    by None open' =
        let n = subst (λ r. IsNextLine to_come reads failures N old new r) e (next open') in
        (n.text, comes_true to_come old new n.read n.text n.reading n.comes)
    by (Some end) ended = absurd (never_true end result (over end ended).1 e)

-- its report has a value of its kind for each slot of the row
pub given_line : {S : Type 0} {to_come : S → Option (List ℕ)} {reads failures : S → ℕ} {N : ℕ} (kinds : List Kind) (optional : ℕ → Bool)
    (old new : LineLoop S) (result : Result Bool LineFault) → StaysEnded old new result →
    (old.over ≡ None → IsNextLine to_come reads failures N old new result)
    → result ≡ Ok true → IsAccepted new.format → HasShape kinds optional old.format → AreGivenAs kinds optional new.report.values
given_line {to_come = to_come} {reads = reads} {failures = failures} {N = N} kinds optional old new result over next e is_accepted shape =
    let r = reported {to_come = to_come} {reads = reads} {failures = failures} {N = N} old new result over next e in
    let accepted = subst IsAccepted r.1.goes.format is_accepted in
    given kinds optional old.format old.limit r.0 End new.report accepted.kinded accepted.slots shape r.1.scanned r.1.done

-- the next line as a row, of a loop that is known by another name
pub as_line_row : {S T : Type 0} (to_come : S → Option (List ℕ)) (reads failures : S → ℕ) (N : ℕ) (kinds : List Kind)
    (listed : T → List (Option Datum))
    (was old advanced new : LineLoop S) (turn : Result Bool LineFault) (result : Result (Option T) LineFault) → was ≡ old
    → (was.over ≡ None → IsNextLine to_come reads failures N was advanced turn) → LineRowAnswers kinds listed advanced new turn result
    → old.over ≡ None → IsNextLineRow to_come reads failures N kinds listed old new result
as_line_row {S = S} to_come reads failures N kinds listed was old advanced new turn result e next answers open' = record {
  advanced = advanced;
  turn = turn;
  is = subst (λ (l : LineLoop S). IsNextLine to_come reads failures N l advanced turn) e (next (ap (λ (l : LineLoop S). l.over) e ∙ open'));
  answers = answers;
}

-- ---- a loop that has ended answers as it did

false_stays : (T : Type 0) (end : Option LineStop) → LineEndedWith false end (Ok false)
    → (let told : Result (Option T) LineFault = Ok None in LineEndedWith None end told)
false_stays T None h = refl
false_stays T (Some stop) h = h

pub over_line_false : {S : Type 0} (T : Type 0) (was old new : LineLoop S) (result : Result Bool LineFault) → was ≡ old
    → StaysEnded was new result
    → result ≡ Ok false
    → (end : Option LineStop) → old.over ≡ Some end → (new ≡ old)
    × (let told : Result (Option T) LineFault = Ok None in LineEndedWith None end told)
over_line_false {S} T was old new result same over e end h =
    let all = over end (ap (λ (l : LineLoop S). l.over) same ∙ h) in
    (all.0 ∙ same, false_stays T end (subst (λ r. LineEndedWith false end r) e all.1))

fault_stays : (T : Type 0) (end : Option LineStop) (fault : LineFault) → LineEndedWith false end (Err fault)
    → (let told : Result (Option T) LineFault = Err fault in LineEndedWith None end told)
fault_stays T None fault h = cc
fault_stays T (Some stop) fault h = h

pub over_line_fault : {S : Type 0} (T : Type 0) (was old new : LineLoop S) (result : Result Bool LineFault) (fault : LineFault) → was ≡ old
    → StaysEnded was new result → result ≡ Err fault
    → (end : Option LineStop) → old.over ≡ Some end → (new ≡ old)
    × (let told : Result (Option T) LineFault = Err fault in LineEndedWith None end told)
over_line_fault {S} T was old new result fault same over e end h =
    let all = over end (ap (λ (l : LineLoop S). l.over) same ∙ h) in
    (all.0 ∙ same, fault_stays T end fault (subst (λ r. LineEndedWith false end r) e all.1))

pub over_line_never : {S : Type 0} (was old new : LineLoop S) (result : Result Bool LineFault) → was ≡ old → StaysEnded was new result
    → result ≡ Ok true
    → (end : Option LineStop) → old.over ≡ Some end → ⊥
over_line_never {S} was old new result same over e end h =
    never_true end result (over end (ap (λ (l : LineLoop S). l.over) same ∙ h)).1 e
