-- What a teller writes of a text that it is to report.
use Rattle.std.specs.Prelude.{◌≡◌, ◌⊎◌, ◌&&◌, not, ℕ, Bool, true, false, if◌then◌else◌, List, [], Option}
use Rattle.std.specs.Io.KnownBytes.{Appends}
use Rattle.sf_print.specs.sink.Sinks.{counted_on}
use Rattle.sf_records.specs.declared.by_lines.end.LineFault.{LineFault}
use Rattle.sf_forms.specs.Written.{TakesPart}

-- It wrote the text; or it failed within it, and wrote a part of it; or it had failed before, and wrote nothing. told
-- and told': what it wrote before and afterwards; failed and failed': whether it had failed then.
abbrev pub Tells : Bool → Bool → Option (List ℕ) → Option (List ℕ) → List ℕ → Type 0
Tells failed failed' told told' text =
    (failed ≡ false) × (failed' ≡ false) × Appends told told' text
    ⊎ (failed ≡ false) × (failed' ≡ true) × TakesPart told told' text
    ⊎ (failed ≡ true) × (failed' ≡ true) × Appends told told' []

-- the faults of what it writes to, of which it makes one and no more
abbrev pub faults_by : Bool → Bool → ℕ → ℕ
faults_by failed failed' faults = if not failed && failed' then counted_on faults else faults

-- What stays of a teller after it was handed lines: what it writes of them, what it keeps, and that it has failed. Its
-- faults are those of what it wrote.
pub record Stays {E Kept : Type 0} (says : E → (ℕ → List ℕ → LineFault → List ℕ) → Type 0) (kept : E → Kept) (failed : E → Bool)
    (faults : E → ℕ) (old new : E) : Type 0 where
  pub same : (telling : ℕ → List ℕ → LineFault → List ℕ) → says old telling → says new telling
  pub keeps : kept new ≡ kept old
  pub silent : failed old ≡ true → failed new ≡ true
  pub counts : faults new ≡ faults_by (failed old) (failed new) (faults old)
