-- What is made of a report, and what a sink takes of it.
use Rattle.std.specs.Prelude.{◌≡◌, ℕ, Bool, true, false, List, [], Option, Result, Ok, Err}
use Rattle.std.specs.Io.KnownBytes.{Appends}
use Rattle.sf_forms.specs.Written.{TakesPart}
use Rattle.sf_report.specs.declared.outcome.Ending.{Ending}
use Rattle.sf_report.specs.declared.outcome.Outcome.{Outcome}
use Rattle.sf_report.specs.Runs.{RunReport}
use Rattle.sf_forms.specs.declared.makers.maker.Unwritten.{Unwritten}
use Rattle.sf_forms.specs.declared.makers.maker.Unwritten.TheVariants.{Unfit, Write, Memory}

-- whether something can be written of a report, and its text
pub record Work : Type 0 where
  pub fits : RunReport → Bool
  pub text : RunReport → List ℕ

-- A text that fits was written; of one that doesn't, nothing; or the sink failed within it; or memory was refused, and nothing was
-- written.
abbrev pub Writes : Bool → List ℕ → Option (List ℕ) → Option (List ℕ) → Result (Unit {0}) Unwritten → Type 0
Writes fits text old new (Ok _) = (fits ≡ true) × Appends old new text
Writes fits text old new (Err Unfit) = (fits ≡ false) × Appends old new []
Writes fits text old new (Err Write) = (fits ≡ true) × TakesPart old new text
Writes fits text old new (Err Memory) = (fits ≡ true) × Appends old new []

-- what is made of the report was written, or not
abbrev pub Makes : Work → RunReport → Option (List ℕ) → Option (List ℕ) → Result (Unit {0}) Unwritten → Type 0
Makes w r = Writes (w.fits r) (w.text r)

abbrev pub sink_failed : Result (Unit {0}) Unwritten → Bool
sink_failed (Err Write) = true
sink_failed _ = false

-- ---- reports

-- what a run came to, but for its values
abbrev pub outcome_of : RunReport → Outcome
outcome_of r = record {
  status = r.status;
  at = r.at;
  assigned = r.assigned;
  converted = r.converted;
  used = r.used;
  met = r.met;
}

-- the same report, but for what the run met
abbrev pub with_met : RunReport → Option Ending → RunReport
with_met r met = record r { met = met }

-- the same is made of it
pub record SameWithMet (w : Work) (r : RunReport) (met : Option Ending) : Type 0 where
  pub fits : w.fits (with_met r met) ≡ w.fits r
  pub text : w.text (with_met r met) ≡ w.text r
