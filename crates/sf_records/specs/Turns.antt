-- What the record loop does after a run.
use Rattle.std.specs.Prelude.{ℕ, nat_eq, nat_lt, ◌&&◌, Bool, true, false, if◌then◌else◌, Option, Some, None}
use Rattle.sf_run.specs.outcome.Ending.{Ending}
use Rattle.sf_run.specs.outcome.Ending.TheVariants.{End, Fault}
use Rattle.sf_run.specs.outcome.Status.{Status}
use Rattle.sf_run.specs.outcome.Status.TheVariants.{Done, InputFailure, NoMemory}
use Rattle.sf_run.specs.Runs.{RunReport}
use Rattle.sf_records.specs.declared.turn.Turn.{Turn}
use Rattle.sf_records.specs.declared.turn.Turn.TheVariants.{Goes, Ends, Cut, Failed, Stalled, Unfit, RanOut}

-- By whether items of the format may be missing, the status, what the run met, the bytes that it used and the conversions
-- that completed. Where fscanf would return EOF at the end of the input (C11 7.21.6.2p16), there is no further record; nor
-- is there where each item is missing at the end.
abbrev pub turn_by : Bool → Status → Option Ending → ℕ → ℕ → Turn
turn_by optional NoMemory met used converted = RanOut
turn_by optional Done (Some Fault) used converted = Cut (nat_lt 0 used)
turn_by optional _ (Some Fault) used converted = Cut false
turn_by optional Done (Some End) used converted =
    if optional && nat_eq converted 0 then Ends else (if nat_eq used 0 then Stalled else Goes)
turn_by optional Done None used converted = if nat_eq used 0 then Stalled else Goes
turn_by optional InputFailure (Some End) used converted = if nat_eq converted 0 then Ends else Failed
turn_by optional _ met used converted = Failed

abbrev pub turn_of : Bool → RunReport → Turn
turn_of optional report = turn_by optional report.status report.met report.used report.converted

-- whether the record of the run is written
abbrev pub writes : Turn → Bool
writes Goes = true
writes (Cut written) = written
writes _ = false

-- where a record is to be written and can't be, the loop stops
abbrev pub fit_turn : Bool → Turn → Turn
fit_turn fits turn = if writes turn then (if fits then turn else Unfit) else turn
