-- Lines whose records have numbers alone.
use Rattle.std.specs.Prelude.{◌≡◌, ◌≤◌, ◌<◌, ◌+◌, ◌++◌, ℕ, List, Bool, true, length, take}
use Rattle.sf_base.specs.Data.{Assigned}
use Rattle.sf_format.specs.declared.directive.Directive.{Directive}
use Rattle.sf_run.specs.outcome.Status.TheVariants.{Done}
use Rattle.sf_run.specs.Runs.{RunReport}
use Rattle.sf_c.specs.declared.records.SfDone.{SfDone}
use Rattle.sf_c.specs.declared.values.SfValue.{SfValue}
use Rattle.sf_c.specs.Records.{AreScanned, IsRunAt}
use Rattle.sf_c.specs.Values.{IsRow}

-- the cells are a row, and point to no text
abbrev pub IsTextless : List Directive → List Assigned → List SfValue → Type 0
IsTextless ds values row = (texts : List ℕ) → IsRow texts ds values row

-- the first line of the text, which has so many bytes with its newline, is a record with these cells
pub record IsTextlessLine (ds : List Directive) (limit : ℕ) (text : List ℕ) (size : ℕ) (row : List SfValue) : Type 0 where
  pub report : RunReport
  pub run : IsRunAt true ds limit text size report
  pub done : report.status ≡ Done
  pub cells : IsTextless ds report.values row
  pub some : 0 < size
  pub within : size ≤ length text

-- the row stands behind the first cells
abbrev pub IsBehind : ℕ → List SfValue → List SfValue → List SfValue → Type 0
IsBehind at old new row = take (at + length row) new ≡ take at old ++ row

-- the records of a text as far as they were scanned, with so many cells
abbrev pub AreAt : Bool → List Directive → ℕ → List ℕ → SfDone → List SfValue → List ℕ → ℕ → Type 0
AreAt lines ds limit text done values texts at = (s : AreScanned lines ds limit text done values texts) × (length s.cells ≡ at)
