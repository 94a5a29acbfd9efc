-- How many records a loop has answered: what a caller that counts them keeps in its loop, and has at the end.
use Rattle.std.proofs.Common.{◌≡◌, ℕ, ◌+◌, ◌⊎◌, inl, inr, Bool, true, false, cond, ◌&&◌, nat_eq, List, [], ◌∷◌, ◌++◌, Option, Some, None}
use Rattle.std.proofs.Common.{Result, Ok, Err}
use Rattle.std.proofs.Common.{refl, sym, ap, subst, ◌∙◌, arith, length-append}
use Rattle.std.proofs.lemmas.Bool.Decides.{nat_tests}
use Rattle.sf_base.specs.Data.{Datum}
use Rattle.sf_base.specs.declared.values.Kind.{Kind}
use Rattle.sf_format.specs.declared.directive.Directive.{Directive}
use Rattle.sf_format.specs.Proper.{has_optional}
use Rattle.sf_run.specs.outcome.Ending.{Ending}
use Rattle.sf_run.specs.outcome.Ending.TheVariants.{End, Fault}
use Rattle.sf_run.specs.outcome.Outcome.{Outcome}
use Rattle.sf_run.specs.outcome.Status.{Status}
use Rattle.sf_run.specs.outcome.Status.TheVariants.{Done, InputFailure, MatchingFailure, OutOfRange, TooLong, NoMemory}
use Rattle.sf_run.specs.Limits.{RunTold}
use Rattle.sf_read.specs.source.Ahead.{input_of}
use Rattle.sf_read.specs.Scan.{is_fault}
use Rattle.sf_loops.specs.declared.fault.RecordFault.{RecordFault}
use Rattle.sf_loops.specs.declared.fault.RecordWhy.TheVariants as why
use Rattle.sf_loops.specs.declared.turn.Turn.{Turn}
use Rattle.sf_loops.specs.declared.turn.Turn.TheVariants.{Goes, Cut, Ends, Stops}
use Rattle.sf_loops.specs.Laws.{AnswersInTurn}
use Rattle.sf_loops.specs.Loops.{Advances, IsNextRow, Loop, RowAnswers, ended_with}
use Rattle.sf_loops.specs.Turns.{outcome_of, turn_for, turn_of}
use Rattle.sf_loops.specs.Counts.{AnswersNext, Counting, IsCount, RecordsAreCounted}
use Rattle.sf_loops.proofs.InTurn.{answers_are_records}

-- where a loop has ended, a row is no answer, and the end only where it has ended cleanly
no_row : {T : Type 0} (row : T) (end : Option RecordFault) →
    (let told : Result (Option T) RecordFault = Ok (Some row) in told ≡ ended_with None end)
    → ⊥
no_row row None e = cc
no_row row (Some fault) e = cc

module _ {S T : Type 0} (to_come : S → Option (List ℕ)) (reads failures : S → ℕ) (N : ℕ) (kinds : List Kind)
    (listed : T → List (Option Datum))
    (old : Loop S) where
  pub begins : old.over ≡ None → Counting to_come reads failures N kinds listed old old 0
  begins none = record { rows = []; count = refl; going = λ _. (refl, refl, refl); unended = λ e. (let never = sym none ∙ e in cc) }

  in_turn : (was : Loop S) (rows : List T) (mid new : Loop S) (row : T) → AnswersInTurn to_come reads failures N kinds listed was rows mid
      → IsNextRow to_come reads failures N kinds listed mid new (Ok (Some row)) → new.over ≡ None
      → AnswersInTurn to_come reads failures N kinds listed was (rows ++ row ∷ []) new
  in_turn was [] mid new row same next e =
      (new, subst (λ (l : Loop S). IsNextRow to_come reads failures N kinds listed l new (Ok (Some row))) (sym same) next, e, refl)
  in_turn was (r ∷ rows) mid new row (one, is, goes, more) next e = (one, is, goes, in_turn one rows mid new row more next e)

  -- after a row the loop has not come to the end, and where it goes on the format and the limit are the same
  after : (was mid new : Loop S) (turn : Turn) → Advances was mid turn (Ok true) → new ≡ mid
      → (new.over ≡ Some None → ⊥) × (new.over ≡ None → (new.format ≡ was.format) × (new.limit ≡ was.limit))
  after was mid new Goes h same = (
    λ e. (let never = sym e ∙ ap (λ (l : Loop S). l.over) same ∙ h.1.over_is in cc),
    λ _. (ap (λ (l : Loop S). l.format) same ∙ h.1.format, ap (λ (l : Loop S). l.limit) same ∙ h.1.limit),
  )
  after was mid new Cut h same = (
    λ e. (let never = sym e ∙ ap (λ (l : Loop S). l.over) same ∙ h.1.over_is in cc),
    λ _. (ap (λ (l : Loop S). l.format) same ∙ h.1.format, ap (λ (l : Loop S). l.limit) same ∙ h.1.limit),
  )
  after was mid new Ends h same = let never = h.0 in absurd cc
  after was mid new (Stops why) h same = let never = h.0 in absurd cc

  after_row : (was mid new : Loop S) (turn : Result Bool RecordFault) (row : T) → RowAnswers kinds listed mid new turn (Ok (Some row))
      → Advances was mid (turn_of was.format mid.report) turn
      → (new.over ≡ Some None → ⊥) × (new.over ≡ None → (new.format ≡ was.format) × (new.limit ≡ was.limit))
  after_row was mid new (Ok true) row h advances = after was mid new (turn_of was.format mid.report) advances h.0
  after_row was mid new (Ok false) row h advances = absurd h
  after_row was mid new (Err fault) row h advances = absurd h

  -- one more row
  pub more : (now new : Loop S) (n : ℕ) (row : T) → Counting to_come reads failures N kinds listed old now n
      → AnswersNext to_come reads failures N kinds listed now new (Ok (Some row))
      → Counting to_come reads failures N kinds listed old new (n + 1)
  more now new n row c answer = by now.over refl
    where
      by : (o : Option (Option RecordFault)) → now.over ≡ o → Counting to_come reads failures N kinds listed old new (n + 1)
      by (Some end) e = absurd (no_row row end (answer.over end e).1)
      by None e =
          let is = answer.next e in
          let before = c.going e in
          let left = after_row now is.advanced new is.turn row is.answers is.is.advances in
          record {
            rows = c.rows ++ row ∷ [];
            count = length-append c.rows (row ∷ []) ∙ ap (λ k. k + 1) c.count;
            going = λ goes. (
              in_turn old c.rows now new row before.0 is goes,
              (left.1 goes).0 ∙ before.1,
              (left.1 goes).1 ∙ before.2,
            );
            unended = left.0;
          }

  fine : (optional : Bool) (o : Outcome) (status : Status) (met : Option Ending)
      → turn_for optional o status met ≡ Ends
      → (is_fault met ≡ false) × ((status ≡ InputFailure) ⊎ (status ≡ Done) × (optional ≡ true)) × (o.converted ≡ 0) × (met ≡ Some End)
  fine optional o InputFailure (Some End) e = (refl, inl refl, grind arith, refl)
  fine optional o Done (Some End) e = by optional (nat_eq o.converted 0) (nat_eq o.used 0) refl refl e
    where
      by : (v c u : Bool) → optional ≡ v → nat_eq o.converted 0 ≡ c
          → cond (v && c) Ends (cond u (Stops why.Stalled) Goes) ≡ Ends
          → (is_fault (Some End) ≡ false) × ((Done ≡ InputFailure) ⊎ (Done ≡ Done) × (optional ≡ true)) × (o.converted ≡ 0)
          × (Some End ≡ Some End)
      by true true u is none h = (refl, inr (refl, is), grind (arith, nat_tests), refl)
      by true false true is none h = absurd cc
      by true false false is none h = absurd cc
      by false c true is none h = absurd cc
      by false c false is none h = absurd cc
  fine optional o Done None e = by (nat_eq o.used 0) e
    where
      by : (u : Bool) → cond u (Stops why.Stalled) Goes ≡ Ends
          → (is_fault None ≡ false) × ((Done ≡ InputFailure) ⊎ (Done ≡ Done) × (optional ≡ true)) × (o.converted ≡ 0) × (None ≡ Some End)
      by true h = absurd cc
      by false h = absurd cc
  fine optional o Done (Some Fault) e = by (nat_eq o.used 0) e
    where
      by : (u : Bool) → cond u (Stops why.Read) Cut ≡ Ends
          → (is_fault (Some Fault) ≡ false) × ((Done ≡ InputFailure) ⊎ (Done ≡ Done) × (optional ≡ true)) × (o.converted ≡ 0)
          × (Some Fault ≡ Some End)
      by true h = absurd cc
      by false h = absurd cc
  fine optional o InputFailure None e = absurd cc
  fine optional o InputFailure (Some Fault) e = absurd cc
  fine optional o MatchingFailure None e = absurd cc
  fine optional o MatchingFailure (Some End) e = absurd cc
  fine optional o MatchingFailure (Some Fault) e = absurd cc
  fine optional o OutOfRange None e = absurd cc
  fine optional o OutOfRange (Some End) e = absurd cc
  fine optional o OutOfRange (Some Fault) e = absurd cc
  fine optional o TooLong None e = absurd cc
  fine optional o TooLong (Some End) e = absurd cc
  fine optional o TooLong (Some Fault) e = absurd cc
  fine optional o NoMemory None e = absurd cc
  fine optional o NoMemory (Some End) e = absurd cc
  fine optional o NoMemory (Some Fault) e = absurd cc

  ends_turn : (was mid : Loop S) (turn : Turn) → Advances was mid turn (Ok false) → turn ≡ Ends
  ends_turn was mid Ends h = refl
  ends_turn was mid Goes h = let never = h.0 in absurd cc
  ends_turn was mid Cut h = let never = h.0 in absurd cc
  ends_turn was mid (Stops why) h = let never = h.0 in absurd cc

  none_turn : (was mid new : Loop S) (turn : Result Bool RecordFault) → RowAnswers kinds listed mid new turn (Ok None)
      → Advances was mid (turn_of was.format mid.report) turn → turn_of was.format mid.report ≡ Ends
  none_turn was mid new (Ok false) h advances = ends_turn was mid (turn_of was.format mid.report) advances
  none_turn was mid new (Ok true) h advances = absurd h
  none_turn was mid new (Err fault) h advances = absurd h

  -- the end
  pub ends : (t : List ℕ) → input_of to_come old.ahead ≡ Some t
      → (now new : Loop S) (n : ℕ) → Counting to_come reads failures N kinds listed old now n
      → AnswersNext to_come reads failures N kinds listed now new (Ok None) → IsCount kinds listed old.format old.limit t n
  ends t input now new n c answer = by now.over refl
    where
      by : (o : Option (Option RecordFault)) → now.over ≡ o → IsCount kinds listed old.format old.limit t n
      by (Some None) e = absurd (c.unended e)
      by (Some (Some fault)) e = let never = (answer.over (Some fault) e).1 in absurd cc
      by None e =
          let is = answer.next e in
          let before = c.going e in
          let (left, records, rest) = answers_are_records to_come reads failures N kinds listed old now c.rows before.0 t input in
          let turn = none_turn now is.advanced new is.turn is.answers is.is.advances in
          let o = outcome_of is.advanced.report in
          let end = fine (has_optional now.format) o is.advanced.report.status is.advanced.report.met turn in
          let told = (is.is.run.scan left rest).whole end.0 in
          record {
            rows = c.rows;
            left = left;
            records = records;
            count = sym c.count;
            ends = record {
              report = is.advanced.report;
              told = subst (λ (ds : List Directive). RunTold ds old.limit left End is.advanced.report) before.1
                  (subst (λ m. RunTold now.format m left End is.advanced.report) before.2 told);
              status = subst (λ (ds : List Directive). (is.advanced.report.status ≡ InputFailure)
                  ⊎ (is.advanced.report.status ≡ Done) × (has_optional ds ≡ true)) before.1 end.1;
              converted = end.2;
              met = end.3;
            };
          }

pub records_are_counted : {S T : Type 0} (to_come : S → Option (List ℕ)) (reads failures : S → ℕ) (N : ℕ) (kinds : List Kind)
    (listed : T → List (Option Datum)) → RecordsAreCounted to_come reads failures N kinds listed
records_are_counted to_come reads failures N kinds listed = record {
  begins = λ old none. begins to_come reads failures N kinds listed old none;
  more = λ old now new n row c answer. more to_come reads failures N kinds listed old now new n row c answer;
  ends = λ old now new n c answer t input. ends to_come reads failures N kinds listed old t input now new n c answer;
}
