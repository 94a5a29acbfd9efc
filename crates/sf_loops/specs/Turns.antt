-- What a loop over records does after the run of each: where fscanf would return EOF at the end of the input (C11 7.21.6.2p16), there is
-- no further record.
use Rattle.std.specs.Prelude.{◌≡◌, ◌⊎◌, ◌&&◌, Bool, true, nat_eq, if◌then◌else◌, List, Option, Some, None}
use Rattle.sf_format.specs.declared.directive.Directive.{Directive}
use Rattle.sf_format.specs.Proper.{has_optional}
use Rattle.sf_run.specs.outcome.Ending.{Ending}
use Rattle.sf_run.specs.outcome.Ending.TheVariants.{End, Fault}
use Rattle.sf_run.specs.outcome.Outcome.{Outcome}
use Rattle.sf_run.specs.outcome.Status.{Status}
use Rattle.sf_run.specs.outcome.Status.TheVariants.{Done, InputFailure, NoMemory}
use Rattle.sf_run.specs.Runs.{RunReport}
use Rattle.sf_loops.specs.declared.fault.RecordWhy.TheVariants as why
use Rattle.sf_loops.specs.declared.turn.Turn.{Turn}
use Rattle.sf_loops.specs.declared.turn.Turn.TheVariants.{Goes, Cut, Ends, Stops}

-- by whether items of the format may be missing, the status and what the run met; where each item is missing at the end, there is no
-- further record either
abbrev pub turn_for : Bool → Outcome → Status → Option Ending → Turn
turn_for optional outcome NoMemory met = Stops why.NoMemory
turn_for optional outcome Done (Some Fault) = if nat_eq outcome.used 0 then Stops why.Read else Cut
turn_for optional outcome _ (Some Fault) = Stops why.Read
turn_for optional outcome Done (Some End) =
    if optional && nat_eq outcome.converted 0 then Ends else (if nat_eq outcome.used 0 then Stops why.Stalled else Goes)
turn_for optional outcome Done None = if nat_eq outcome.used 0 then Stops why.Stalled else Goes
turn_for optional outcome InputFailure (Some End) = if nat_eq outcome.converted 0 then Ends else Stops (why.Failed outcome)
turn_for optional outcome _ met = Stops (why.Failed outcome)

abbrev pub turn_by : Bool → Outcome → Turn
turn_by optional outcome = turn_for optional outcome outcome.status outcome.met

-- what a run came to, but for its values
abbrev pub outcome_of : RunReport → Outcome
outcome_of r = record {
  status = r.status;
  at = r.at;
  assigned = r.assigned;
  converted = r.converted;
  used = r.used;
  met = r.met;
}

abbrev pub turn_of : List Directive → RunReport → Turn
turn_of ds r = turn_by (has_optional ds) (outcome_of r)

-- The input has no further record: it ended before an item was converted, where fscanf would return EOF (C11 7.21.6.2p16); or, by a format
-- whose items may be missing, each was missing there.
pub record IsEnd (ds : List Directive) (o : Outcome) : Type 0 where
  pub met : o.met ≡ Some End
  pub none : o.converted ≡ 0
  pub status : (o.status ≡ InputFailure) ⊎ (o.status ≡ Done) × (has_optional ds ≡ true)
