-- What a scan of an input gives, and what it leaves (C11 7.21.6.2p4, p9, p16).
use Rattle.std.specs.Prelude.{◌≡◌, ◌≤◌, ◌++◌, ℕ, List, [], length, take, drop, Bool, true, false, Option, Some, None}
use Rattle.sf_format.specs.declared.directive.Directive.{Directive}
use Rattle.sf_run.specs.outcome.Ending.{Ending}
use Rattle.sf_run.specs.outcome.Ending.TheVariants.{End, Fault}
use Rattle.sf_run.specs.Runs.{RunReport}
use Rattle.sf_run.specs.Limits.{RunWithin, RunTold}
use Rattle.sf_read.specs.source.Ahead.{Ahead, input_of}

-- the run met a fault of its source
abbrev pub is_fault : Option Ending → Bool
is_fault None = false
is_fault (Some End) = false
is_fault (Some Fault) = true

-- an input may go on so: not at all, and with its end, where the source has reported its end
abbrev pub MayFollow : {S : Type 0} → Ahead S → List ℕ → Ending → Type 0
MayFollow now z ending = now.at_end ≡ true → (z ≡ []) × (ending ≡ End)

-- these bytes and what is held now are what was held, and then bytes that were read: none where the source had reported
-- its end
abbrev pub IsHeldAndRead : {S : Type 0} → Ahead S → List ℕ → Ahead S → Type 0
IsHeldAndRead old bytes now = (read : List ℕ) × (bytes ++ now.held ≡ old.held ++ read) × (old.at_end ≡ true → read ≡ [])

-- A scan of the input t: its report, and what is then held and to come. old and new are the lookahead before and after it.
pub record Scan {S : Type 0} (to_come : S → Option (List ℕ)) (ds : List Directive) (m : ℕ) (t : List ℕ) (old new : Ahead S)
    (report : RunReport) : Type 0 where
  -- the source did not fail: the report of the input with its end, or of the run up to where a storing was refused
  pub whole : is_fault report.met ≡ false → RunTold ds m t End report
  -- it failed: the report of what was used, with the fault
  pub cut : is_fault report.met ≡ true → RunWithin ds m (take report.used t) Fault report
  pub within : report.used ≤ length t
  -- what was not used is held or to come
  pub rest : input_of to_come new ≡ Some (drop report.used t)
  -- the report rests on no byte but those that were used or are held
  pub seen : is_fault report.met ≡ false → (z : List ℕ) (ending : Ending) → MayFollow new z ending
      → RunTold ds m (take report.used t ++ new.held ++ z) ending report
  -- what was used and what is held is what was held, and then what was read
  pub read : IsHeldAndRead old (take report.used t) new
  -- the source failed only where nothing was held, and it may give more
  pub nothing_held : is_fault report.met ≡ true → (new.held ≡ []) × (new.at_end ≡ false)
  -- where it has reported its end, nothing is to come
  pub told : new.at_end ≡ true → (z : List ℕ) → to_come new.source ≡ Some z → z ≡ []
