-- What the reading of rows by a pair gives.
use Rattle.std.specs.Prelude.{◌≡◌, ◌≤◌, ◌<◌, ◌⊎◌, ℕ, nat_eq, Bool, true, false, List, [], ◌∷◌, length, Option, Some, Ok, Err}
use Rattle.std.specs.List.{AllByRecursion}
use Rattle.sf_base.specs.Data.{Datum}
use Rattle.sf_base.specs.declared.values.Kind.{Kind}
use Rattle.sf_format.specs.declared.directive.Directive.{Directive}
use Rattle.sf_format.specs.declared.unit.Unit.{Unit as PrintUnit}
use Rattle.sf_print.specs.Printed.{printed}
use Rattle.sf_run.specs.outcome.Ending.{Ending}
use Rattle.sf_run.specs.outcome.Ending.TheVariants.{End}
use Rattle.sf_run.specs.outcome.Status.{Status}
use Rattle.sf_run.specs.outcome.Status.TheVariants.{InputFailure}
use Rattle.sf_run.specs.declared.feeding.StartFault.TheVariants as start
use Rattle.sf_read.specs.declared.row.ScanRowFault.{ScanRowFault}
use Rattle.sf_read.specs.declared.row.ScanRowFault.TheVariants as why
use Rattle.sf_read.specs.source.Ahead.{Ahead}
use Rattle.sf_read.specs.source.Counts.{counted_on}
use Rattle.sf_read.specs.RowScans.{HasShape, RowScan}
use Rattle.sf_read.specs.Shapes.{IsDifference}
use Rattle.sf_read.specs.declared.shape.ShapeFault.{ShapeFault}
use Rattle.sf_pair.specs.Fits.{Fit}
use Rattle.sf_pair_read.specs.declared.rows.fault.ReadRowsFault.{ReadRowsFault}

-- Rows that fit, each within the limit: as many as are asked for, or fewer, and then nothing.
pub record AreReadable (us : List PrintUnit) (ds : List Directive) (limit most : ℕ) (rows : List (List Datum)) (z : List ℕ) : Type 0 where
  pub fit : AllByRecursion (Fit us ds) rows
  pub low : limit ≤ 2147483647
  pub short : AllByRecursion (λ values. length (printed us values) ≤ limit) rows
  pub count : (length rows ≡ most) ⊎ ((length rows < most) × (z ≡ []))

-- memory was refused: for the store, for a row or for the list
abbrev pub IsMemory : ScanRowFault → Type 0
IsMemory why.NoMemory = Unit {0}
IsMemory (why.Start fault) = fault ≡ start.NoMemory
IsMemory _ = ⊥

-- the input ended before a row
abbrev pub ends_at : ℕ → Status → Option Ending → Bool
ends_at converted InputFailure (Some End) = nat_eq converted 0
ends_at converted _ _ = false

abbrev pub is_end : ScanRowFault → Bool
is_end (why.Failed outcome) = ends_at outcome.converted outcome.status outcome.met
is_end _ = false

-- ---- any rows

-- these rows were scanned, one after the other: each is that of a run over what the one before it left
abbrev pub RowsInTurn : {S T : Type 0} → (S → Option (List ℕ)) → (S → ℕ) → (S → ℕ) → ℕ → List Kind → (T → List (Option Datum))
    → List Directive → ℕ → Ahead S → List T → Ahead S → Type 0
RowsInTurn to_come reads failures N kinds given ds m old [] new = old ≡ new
RowsInTurn {S} to_come reads failures N kinds given ds m old (row ∷ rows) new =
    (mid : Ahead S) × RowScan to_come reads failures N kinds given ds m old mid (Ok row)
    × RowsInTurn to_come reads failures N kinds given ds m mid rows new

-- these rows were read: as many as were asked for, or those before the end of the input
pub record ReadsRows {S T : Type 0} (to_come : S → Option (List ℕ)) (reads failures : S → ℕ) (N : ℕ) (kinds : List Kind)
    (given : T → List (Option Datum)) (ds : List Directive) (m most : ℕ) (old new : Ahead S) (rows : List T) : Type 0 where
  pub now : Ahead S
  pub turns : RowsInTurn to_come reads failures N kinds given ds m old rows now
  pub ends : ((length rows ≡ most) × (new ≡ now))
      ⊎ ((length rows < most) × ((why : ScanRowFault) × (is_end why ≡ true)
      × RowScan to_come reads failures N kinds given ds m now new (Err why)))

-- By why there is no next row: its run was no match, or memory for the row or for the list was refused; or there was no run.
abbrev pub RefusesNext : {S T : Type 0} → (S → Option (List ℕ)) → (S → ℕ) → (S → ℕ) → ℕ → List Kind → (ℕ → Bool)
    → (T → List (Option Datum)) → List Directive → ℕ → Ahead S → Ahead S → ScanRowFault → Type 0
RefusesNext to_come reads failures N kinds optional given ds m now new (why.Failed outcome) =
    (is_end (why.Failed outcome) ≡ false) × RowScan to_come reads failures N kinds given ds m now new (Err (why.Failed outcome))
RefusesNext {S} {T} to_come reads failures N kinds optional given ds m now new why.NoMemory =
    RowScan to_come reads failures N kinds given ds m now new (Err why.NoMemory)
    ⊎ ((row : T) × RowScan to_come reads failures N kinds given ds m now new (Ok row))
RefusesNext to_come reads failures N kinds optional given ds m now new (why.Start fault) =
    (new ≡ now) × HasShape kinds optional ds × ((fault ≡ start.NoMemory) ⊎ ((fault ≡ start.BadLimit) × (2147483647 < m)))
RefusesNext to_come reads failures N kinds optional given ds m now new (why.ShapeDiffers by) =
    (new ≡ now) × (HasShape kinds optional ds → ⊥) × IsDifference kinds optional ds by
RefusesNext to_come reads failures N kinds optional given ds m now new (why.LeftOver at) = ⊥

-- the rows haven't the slots of the format: the fault is of the first one, and says how they differ
abbrev pub IsUnshaped : List Kind → (ℕ → Bool) → List Directive → ReadRowsFault → Type 0
IsUnshaped kinds optional ds fault = (fault.row ≡ 1) × (by : ShapeFault) × (fault.why ≡ why.ShapeDiffers by)
    × IsDifference kinds optional ds by

-- the rows before this one were read, and it was not
pub record StopsBefore {S T : Type 0} (to_come : S → Option (List ℕ)) (reads failures : S → ℕ) (N : ℕ) (kinds : List Kind)
    (optional : ℕ → Bool) (given : T → List (Option Datum)) (ds : List Directive) (m : ℕ) (old new : Ahead S)
    (fault : ReadRowsFault) : Type 0 where
  pub before : List T
  pub now : Ahead S
  pub turns : RowsInTurn to_come reads failures N kinds given ds m old before now
  pub number : fault.row ≡ counted_on (length before)
  pub refusal : RefusesNext to_come reads failures N kinds optional given ds m now new fault.why
