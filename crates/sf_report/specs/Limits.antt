-- Runs under a limit on their bytes, and runs for which memory was refused.
use Rattle.std.specs.Prelude.{◌≡◌, ℕ, ◌+◌, ◌-◌, ◌<◌, ◌≤◌, ◌⊎◌, Bool, true, false, List, ◌∷◌, ◌++◌, length, drop, Option, None}
use Rattle.std.specs.Prelude.{IsSome}
use Rattle.sf_base.specs.Bytes.{IsSkip}
use Rattle.sf_format.specs.declared.directive.Conversion.{Conversion}
use Rattle.sf_format.specs.declared.directive.Shape.{Shape}
use Rattle.sf_format.specs.declared.directive.Shape.TheVariants.{Int, Count}
use Rattle.sf_format.specs.declared.directive.Directive.{Directive}
use Rattle.sf_format.specs.declared.directive.Directive.TheVariants.{Conv}
use Rattle.sf_report.specs.declared.outcome.Ending.{Ending}
use Rattle.sf_report.specs.declared.outcome.Status.{Status}
use Rattle.sf_report.specs.declared.outcome.Status.TheVariants.{TooLong, NoMemory}
use Rattle.sf_report.specs.Steps.{IsSkipBefore}
use Rattle.sf_report.specs.Runs.{Ran, Steps, RunReport, report_of, Run, bytes_used, values_stored, count_assigned, count_converted}

-- a run that was cut off after m bytes, in the directive after those that ran before
abbrev pub cut_report : Status → List Ran → ℕ → RunReport
cut_report status before m = record {
  status = status;
  at = length before + 1;
  assigned = count_assigned before;
  converted = count_converted before;
  used = m;
  met = None;
  values = values_stored before;
}

-- byte m + 1 would be consumed by the directive after these
pub record IsCut (ds : List Directive) (x : List ℕ) (m : ℕ) (before : List Ran) : Type 0 where
  pub cut : Ran
  pub rest : List Ran
  pub steps : Steps ds x 0 (before ++ (cut ∷ rest))
  pub low : bytes_used before ≤ m
  pub high : m < bytes_used before + cut.bytes

-- the report under a limit of m bytes
abbrev pub RunWithin : List Directive → ℕ → List ℕ → Ending → RunReport → Type 0
RunWithin ds m x ending report =
    (report.used ≤ m) × Run ds x ending report
    ⊎ ((before : List Ran) × IsCut ds x m before × (report ≡ cut_report TooLong before m))

-- the same but for what the run met: what depends on x alone
abbrev pub TellsWithin : List Directive → ℕ → List ℕ → RunReport → Type 0
TellsWithin ds m x report =
    ((ran : List Ran) × Steps ds x 0 ran × (bytes_used ran ≤ m) × (report ≡ report_of ran None))
    ⊎ ((before : List Ran) × IsCut ds x m before × (report ≡ cut_report TooLong before m))

-- past the white space before its item, an assigned text conversion has consumed k bytes of x
abbrev pub StoresShape : Shape → Option ℕ → List ℕ → ℕ → Type 0
StoresShape (Int numeral) slot x k = ⊥
StoresShape Count slot x k = ⊥
StoresShape shape slot x k = IsSome slot × ((s : ℕ) × IsSkipBefore shape x s × (s ≤ k))

-- the same of a column: past the white space at its front
abbrev pub StoresColumn : Shape → Option ℕ → List ℕ → ℕ → Type 0
StoresColumn (Int numeral) slot x k = ⊥
StoresColumn Count slot x k = ⊥
StoresColumn shape slot x k = IsSome slot × ((s : ℕ) × IsSkip x s × (s ≤ k))

abbrev pub StoresBy : Bool → Conversion → List ℕ → ℕ → Type 0
StoresBy true c x k = StoresColumn c.shape c.slot x k
StoresBy false c x k = StoresShape c.shape c.slot x k

abbrev pub StoresAt : Directive → List ℕ → ℕ → Type 0
StoresAt (Conv c) x k = StoresBy c.column c x k
StoresAt _ x k = ⊥

-- the report where the storing of a byte was refused, within a limit of m bytes
abbrev pub RunRefused : List Directive → ℕ → List ℕ → RunReport → Type 0
RunRefused ds m x report =
    (k : ℕ) × (k < m) × ((before : List Ran) × (cut : IsCut ds x k before)
    × StoresAt cut.cut.directive (drop (bytes_used before) x) (k - bytes_used before) × (report ≡ cut_report NoMemory before k))

-- the report under a limit of m bytes; or, where the storing of a byte was refused, that of the run up to there
abbrev pub RunTold : List Directive → ℕ → List ℕ → Ending → RunReport → Type 0
RunTold ds m x ending report = RunWithin ds m x ending report ⊎ RunRefused ds m x report
