-- The rows of a loop over records.
use Rattle.std.proofs.Common.{◌≡◌, ℕ, ◌⊎◌, inl, inr, Bool, true, false, List, Option, Some, None, Result, Ok, Err, refl, sym, ap, subst}
use Rattle.std.proofs.Common.{◌∙◌, arith, true≢false}
use Rattle.sf_base.specs.Data.{Datum}
use Rattle.sf_base.specs.declared.values.Kind.{Kind}
use Rattle.sf_format.specs.Proper.{IsAccepted, has_optional}
use Rattle.sf_run.specs.outcome.Ending.{Ending}
use Rattle.sf_run.specs.outcome.Outcome.{Outcome}
use Rattle.sf_run.specs.outcome.Status.{Status}
use Rattle.sf_run.specs.outcome.Status.TheVariants.{Done}
use Rattle.sf_run.specs.Runs.{RunReport}
use Rattle.sf_read.specs.source.Counts.{counted_on}
use Rattle.sf_read.specs.field.Rows.{AreGivenAs}
use Rattle.sf_read.specs.RowScans.{HasShape}
use Rattle.sf_read.proofs.Shapes.{given}
use Rattle.sf_loops.specs.declared.fault.RecordFault.{RecordFault}
use Rattle.sf_loops.specs.declared.turn.Turn.{Turn}
use Rattle.sf_loops.specs.declared.turn.Turn.TheVariants.{Goes, Cut, Ends, Stops}
use Rattle.sf_loops.specs.Loops.{Advances, IsLoop, IsNext, IsNextRow, Loop, RowAnswers, ended_with}
use Rattle.sf_loops.specs.Runs.{IsNextRun}
use Rattle.sf_loops.specs.Turns.{outcome_of, turn_for, turn_of}

ok_is : {A E : Type 0} (a b : A) → (let r : Result A E = Ok a in r ≡ Ok b) → a ≡ b
ok_is a b e = cc

err_is : {A E : Type 0} (a b : E) → (let r : Result A E = Err a in r ≡ Err b) → a ≡ b
err_is a b e = cc

-- ---- a record is there only where the run of it is Done

goes_done : (optional : Bool) (o : Outcome) (status : Status) (met : Option Ending)
    → turn_for optional o status met ≡ Goes → status ≡ Done
goes_done optional o status met e = grind arith

cut_done : (optional : Bool) (o : Outcome) (status : Status) (met : Option Ending)
    → turn_for optional o status met ≡ Cut → status ≡ Done
cut_done optional o status met e = grind arith

true_done : {S : Type 0} (old new : Loop S) (turn : Turn) (result : Result Bool RecordFault) → Advances old new turn result
    → result ≡ Ok true
    → (turn ≡ Goes) ⊎ (turn ≡ Cut)
true_done old new Goes result a e = inl refl
true_done old new Cut result a e = inr refl
true_done old new Ends result a e = absurd (true≢false (ok_is true false (sym e ∙ a.0)))
true_done old new (Stops why) result a e = let never = sym e ∙ a.0 in absurd cc

-- the answer true comes of a run that is Done
pub done_of : {S : Type 0} {to_come : S → Option (List ℕ)} {reads failures : S → ℕ} {N : ℕ} (old new : Loop S)
    (result : Result Bool RecordFault)
    → ((end : Option RecordFault) → old.over ≡ Some end → (new ≡ old) × (result ≡ ended_with false end))
    → (old.over ≡ None → IsNext to_come reads failures N old new result) → result ≡ Ok true
    → IsNext to_come reads failures N old new result × (new.report.status ≡ Done)
done_of {to_come = to_come} {reads = reads} {failures = failures} {N = N} old new result over next e = by old.over refl
  where
    by : (o : Option (Option RecordFault)) → old.over ≡ o → IsNext to_come reads failures N old new result × (new.report.status ≡ Done)
    by None open' =
        let r = outcome_of new.report in (
          next open',
          elim (true_done old new (turn_of old.format new.report) result (next open').advances e) [
            | inl goes ↦ goes_done (has_optional old.format) r r.status r.met goes
            | inr cut ↦ cut_done (has_optional old.format) r r.status r.met cut
          ],
        )
    by (Some None) ended = absurd (true≢false (ok_is true false (sym e ∙ (over None ended).1)))
    by (Some (Some fault)) ended = let never = sym e ∙ (over (Some fault) ended).1 in absurd cc

-- by what the loop does after the run
pub advances_by : {S : Type 0} (old new : Loop S) (turn other : Turn) (result : Result Bool RecordFault) → other ≡ turn
    → Advances old new turn result → Advances old new other result
advances_by old new turn other result e h = subst (λ t. Advances old new t result) (sym e) h

-- the next record was done at once, of a loop that is known by another name
pub next_at_once : {S : Type 0} (to_come : S → Option (List ℕ)) (reads failures : S → ℕ) (N : ℕ) (was old new : Loop S) → was ≡ old
    → IsNextRun to_come reads failures N was.format was.limit was.ahead new.ahead was.lines new.lines new.report
    → turn_of was.format new.report ≡ Goes → new.format ≡ was.format → new.limit ≡ was.limit → new.answered ≡ counted_on was.answered
    → new.over ≡ None → IsNext to_come reads failures N old new (Ok true)
next_at_once {S} to_come reads failures N was old new same run turn format limit answered over =
    subst (λ (l : Loop S). IsNext to_come reads failures N l new (Ok true)) same (record {
      run = run;
      advances = advances_by was new Goes (turn_of was.format new.report) (Ok true) turn (
        refl,
        record { format = format; limit = limit; answered_are = answered; over_is = over },
      );
    })

loop_from : {S : Type 0} (old new : Loop S) (r : RunReport) (answered : ℕ) (over : Option (Option RecordFault))
    → IsLoop (record old { report = r }) new answered over → IsLoop old new answered over
loop_from old new r answered over h =
    record { format = h.format; limit = h.limit; answered_are = h.answered_are; over_is = h.over_is }

advances_from : {S : Type 0} (old new : Loop S) (r : RunReport) (turn : Turn) (result : Result Bool RecordFault)
    → Advances (record old { report = r }) new turn result → Advances old new turn result
advances_from old new r Goes result h = (h.0, loop_from old new r _ _ h.1)
advances_from old new r Cut result h = (h.0, loop_from old new r _ _ h.1)
advances_from old new r Ends result h = (h.0, loop_from old new r _ _ h.1)
advances_from old new r (Stops why) result h = (h.0, loop_from old new r _ _ h.1)

-- the report that a loop had before doesn't matter
pub next_from : {S : Type 0} (to_come : S → Option (List ℕ)) (reads failures : S → ℕ) (N : ℕ) (old mid new : Loop S) (r : RunReport)
    (result : Result Bool RecordFault) → mid ≡ record old { report = r } → IsNext to_come reads failures N mid new result
    → IsNext to_come reads failures N old new result
next_from {S} to_come reads failures N old mid new r result is h =
    let same : IsNext to_come reads failures N (record old { report = r }) new result =
    subst (λ (l : Loop S). IsNext to_come reads failures N l new result) is h in
    record { run = same.run; advances = advances_from old new r (turn_of old.format new.report) result same.advances }

-- its report has a value of its kind for each slot of the row
pub given_row : {S : Type 0} {to_come : S → Option (List ℕ)} {reads failures : S → ℕ} {N : ℕ} (kinds : List Kind) (optional : ℕ → Bool)
    (old new : Loop S) (result : Result Bool RecordFault)
    → ((end : Option RecordFault) → old.over ≡ Some end → (new ≡ old) × (result ≡ ended_with false end))
    → (old.over ≡ None → IsNext to_come reads failures N old new result) → result ≡ Ok true
    → new.format ≡ old.format → IsAccepted new.format → HasShape kinds optional old.format → AreGivenAs kinds optional new.report.values
given_row {to_come = to_come} {reads = reads} {failures = failures} {N = N} kinds optional old new result over next e same
    is_accepted shape =
    let d = done_of {to_come = to_come} {reads = reads} {failures = failures} {N = N} old new result over next e in
    let told = d.0.run.told in
    let accepted = subst IsAccepted same is_accepted in
    given kinds optional old.format old.limit told.0 told.1 new.report accepted.kinded accepted.slots shape told.2 d.1

-- ---- the next record as a row, of a loop that is known by another name

pub as_row : {S T : Type 0} (to_come : S → Option (List ℕ)) (reads failures : S → ℕ) (N : ℕ) (kinds : List Kind)
    (listed : T → List (Option Datum))
    (was old advanced new : Loop S) (turn : Result Bool RecordFault) (result : Result (Option T) RecordFault) → was ≡ old
    → (was.over ≡ None → IsNext to_come reads failures N was advanced turn) → RowAnswers kinds listed advanced new turn result
    → old.over ≡ None
    → IsNextRow to_come reads failures N kinds listed old new result
as_row {S = S} to_come reads failures N kinds listed was old advanced new turn result e next answers open' = record {
  advanced = advanced;
  turn = turn;
  is = subst (λ (l : Loop S). IsNext to_come reads failures N l advanced turn) e (next (ap (λ (l : Loop S). l.over) e ∙ open'));
  answers = answers;
}

-- ---- a loop that has ended

abbrev StaysOver : {S : Type 0} → Loop S → Loop S → Result Bool RecordFault → Type 0
StaysOver was new result = (end : Option RecordFault) → was.over ≡ Some end → (new ≡ was) × (result ≡ ended_with false end)

-- answers as it did
pub over_false : {S T : Type 0} (was old new : Loop S) (result : Result Bool RecordFault) → was ≡ old → StaysOver was new result
    → result ≡ Ok false
    → (end : Option RecordFault) → old.over ≡ Some end → (new ≡ old)
    × (let told : Result (Option T) RecordFault = Ok None in told ≡ ended_with None end)
over_false {S} was old new result same over e None h =
    ((over None (ap (λ (l : Loop S). l.over) same ∙ h)).0 ∙ same, refl)
over_false {S} was old new result same over e (Some fault) h =
    let never = sym e ∙ (over (Some fault) (ap (λ (l : Loop S). l.over) same ∙ h)).1 in absurd cc

pub over_fault : {S T : Type 0} (was old new : Loop S) (result : Result Bool RecordFault) (fault : RecordFault) → was ≡ old
    → StaysOver was new result → result ≡ Err fault
    → (end : Option RecordFault) → old.over ≡ Some end → (new ≡ old)
    × (let told : Result (Option T) RecordFault = Err fault in told ≡ ended_with None end)
over_fault {S} was old new result fault same over e None h =
    let never = sym e ∙ (over None (ap (λ (l : Loop S). l.over) same ∙ h)).1 in absurd cc
over_fault {S} was old new result fault same over e (Some own) h =
    let both = over (Some own) (ap (λ (l : Loop S). l.over) same ∙ h) in
    let is : fault ≡ own = err_is fault own (sym e ∙ both.1) in
    (both.0 ∙ same, ap Err is)

-- and has no record
pub over_never : {S : Type 0} (was old new : Loop S) (result : Result Bool RecordFault) → was ≡ old → StaysOver was new result
    → result ≡ Ok true
    → (end : Option RecordFault) → old.over ≡ Some end → ⊥
over_never {S} was old new result same over e None h =
    true≢false (ok_is true false (sym e ∙ (over None (ap (λ (l : Loop S). l.over) same ∙ h)).1))
over_never {S} was old new result same over e (Some fault) h =
    let never = sym e ∙ (over (Some fault) (ap (λ (l : Loop S). l.over) same ∙ h)).1 in absurd cc
