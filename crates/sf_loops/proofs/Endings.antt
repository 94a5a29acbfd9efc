-- Where a loop over records has ended.
use Rattle.std.proofs.Common.{◌≡◌, ◌↔◌, ◌⊎◌, ℕ, Bool, true, false, List, Option, Some, Result, Ok, arith}
use Rattle.std.proofs.lemmas.Bool.Decides.{nat_tests}
use Rattle.sf_format.specs.Proper.{has_optional}
use Rattle.sf_run.specs.outcome.Ending.{Ending}
use Rattle.sf_run.specs.outcome.Ending.TheVariants.{End}
use Rattle.sf_run.specs.outcome.Outcome.{Outcome}
use Rattle.sf_run.specs.outcome.Status.{Status}
use Rattle.sf_run.specs.outcome.Status.TheVariants.{Done, InputFailure}
use Rattle.sf_loops.specs.declared.fault.RecordFault.{RecordFault}
use Rattle.sf_loops.specs.declared.turn.Turn.{Turn}
use Rattle.sf_loops.specs.declared.turn.Turn.TheVariants.{Ends}
use Rattle.sf_loops.specs.Loops.{Advances, IsNext, Loop}
use Rattle.sf_loops.specs.Turns.{IsEnd, outcome_of, turn_for, turn_of}

-- the parts of an end
abbrev HasEnded : Bool → Outcome → Status → Option Ending → Type 0
HasEnded optional o status met =
    (met ≡ Some End) × (o.converted ≡ 0) × ((status ≡ InputFailure) ⊎ (status ≡ Done) × (optional ≡ true))

ended_so : (optional : Bool) (o : Outcome) (status : Status) (met : Option Ending) → turn_for optional o status met ≡ Ends
    → HasEnded optional o status met
ended_so optional o status met is = grind (arith, nat_tests)

ends_so : (optional : Bool) (o : Outcome) (status : Status) (met : Option Ending) → HasEnded optional o status met
    → turn_for optional o status met ≡ Ends
ends_so optional o status met is = grind (arith, nat_tests)

answer_ends : {S : Type 0} (old new : Loop S) (turn : Turn) (result : Result Bool RecordFault) → Advances old new turn result
    → result ≡ Ok false → turn ≡ Ends
answer_ends old new turn result advances is = grind arith

ends_answer : {S : Type 0} (old new : Loop S) (turn : Turn) (result : Result Bool RecordFault) → Advances old new turn result
    → turn ≡ Ends → result ≡ Ok false
ends_answer old new turn result advances is = grind arith

-- the loop's end is reported exactly where the run has met it
pub next_ends : {S : Type 0} (to_come : S → Option (List ℕ)) (reads failures : S → ℕ) (N : ℕ) (old new : Loop S)
    (result : Result Bool RecordFault) → IsNext to_come reads failures N old new result
    → (result ≡ Ok false) ↔ IsEnd old.format (outcome_of new.report)
next_ends to_come reads failures N old new result next = (
  (λ is.
      let o = outcome_of new.report in
      let ended = ended_so (has_optional old.format) o o.status o.met
      (answer_ends old new (turn_of old.format new.report) result next.advances is) in
      record { met = ended.0; none = ended.1; status = ended.2 }),
  (λ ended.
      let o = outcome_of new.report in
      ends_answer old new (turn_of old.format new.report) result next.advances
      (ends_so (has_optional old.format) o o.status o.met (ended.met, ended.none, ended.status))),
)
