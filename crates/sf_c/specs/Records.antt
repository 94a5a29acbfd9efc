-- The records at the front of a text, one after the other: as a loop around fscanf has them (C11 7.21.6.2), or line by line.
use Rattle.std.specs.Prelude.{◌≡◌, ◌≤◌, ◌<◌, ◌⊎◌, ◌+◌, ◌-◌, ◌++◌, ℕ, pos, List, [], ◌∷◌, Bool, true, false, length, take, drop}
use Rattle.sf_format.specs.declared.directive.Directive.{Directive}
use Rattle.sf_run.specs.outcome.Ending.TheVariants.{End}
use Rattle.sf_run.specs.outcome.Status.TheVariants.{Done}
use Rattle.sf_run.specs.Limits.{RunTold}
use Rattle.sf_run.specs.Runs.{RunReport}
use Rattle.sf_read.specs.line.Cut.{IsLine}
use Rattle.sf_read.specs.line.Reading.{IsHeld}
use Rattle.sf_run.specs.outcome.Outcome.{Outcome}
use Rattle.sf_loops.specs.Turns.{IsEnd, outcome_of}
use Rattle.sf_c.specs.declared.outcome.SfOutcome.{SfOutcome}
use Rattle.sf_c.specs.declared.records.SfDone.{SfDone}
use Rattle.sf_c.specs.declared.values.SfValue.{SfValue}
use Rattle.sf_c.specs.Formats.{IsScanFormat}
use Rattle.sf_c.specs.Scans.{HasNoRoom, outcome_by, slots_in}
use Rattle.sf_c.specs.Values.{IsRow}

-- the first line of a text has so many bytes, and so many with its newline; the last line of a text may lack that (C11 7.21.2p2)
abbrev pub IsFirstLine : List ℕ → ℕ → ℕ → Type 0
IsFirstLine text len whole =
    IsHeld text len × (whole ≡ len + 1)
    ⊎ IsLine text × (len ≡ length text) × (whole ≡ len)

-- A run by the format at the front of a text, and how many bytes its record has: those that it used; by lines the run is over the first
-- line alone, and its record is the line with its newline.
abbrev pub IsRunAt : Bool → List Directive → ℕ → List ℕ → ℕ → RunReport → Type 0
IsRunAt false ds limit text size report = RunTold ds limit text End report × (size ≡ report.used)
IsRunAt true ds limit text size report =
    (len : ℕ) × IsFirstLine text len size × (len ≤ limit) × RunTold ds limit (take len text) End report

-- a loop over records goes on after it: the run is Done and used some bytes, and isn't the end of the input
pub record IsGoing (ds : List Directive) (o : Outcome) : Type 0 where
  pub done : o.status ≡ Done
  pub some : 0 < o.used
  pub more : IsEnd ds o → ⊥

-- there is a record where a loop over records goes on after the run; by lines where the run is Done
abbrev pub IsTaken : Bool → List Directive → RunReport → Type 0
IsTaken false ds report = IsGoing ds (outcome_of report)
IsTaken true ds report = report.status ≡ Done

-- these are the reports of the records at the front of the text, which have so many bytes
abbrev pub AreRecords : Bool → List Directive → ℕ → List ℕ → List RunReport → ℕ → Type 0
AreRecords lines ds limit text [] used = used ≡ 0
AreRecords lines ds limit text (report ∷ reports) used =
    (size : ℕ) × (rest : ℕ) × IsRunAt lines ds limit text size report × IsTaken lines ds report × (used ≡ size + rest)
    × AreRecords lines ds limit (drop size text) reports rest

-- the cells of the reports, row after row
abbrev pub AreRows : List ℕ → List Directive → List RunReport → List SfValue → Type 0
AreRows texts ds [] cells = cells ≡ []
AreRows texts ds (report ∷ reports) cells =
    (row : List SfValue) × (rest : List SfValue) × (cells ≡ row ++ rest) × IsRow texts ds report.values row × AreRows texts ds reports rest

-- a line that is longer than the limit is no record: it is too long before its first directive
abbrev pub outcome_too_long : ℕ → SfOutcome
outcome_too_long slots = record {
  c_return = pos 0;
  used = 0;
  at = 0;
  converted = 0;
  fault_at = 0;
  assigned = 0;
  status = 4;
  met = 0;
  fault = 0;
  slots = slots;
}

-- the run after the records is no record, and this is its outcome
abbrev pub IsNoRecord : Bool → List Directive → ℕ → List ℕ → ℕ → SfOutcome → Type 0
IsNoRecord lines ds limit text size outcome =
    ((report : RunReport) × IsRunAt lines ds limit text size report × (IsTaken lines ds report → ⊥)
    × (outcome ≡ outcome_by report (slots_in ds)))
    ⊎ ((len : ℕ) × (lines ≡ true) × IsFirstLine text len size × (limit < len) × (outcome ≡ outcome_too_long (slots_in ds)))

-- there is no room for the cells of a record more, or for what the next run gave
abbrev pub IsFull : Bool → List Directive → ℕ → List ℕ → ℕ → ℕ → Type 0
IsFull lines ds limit text room bytes =
    (room < slots_in ds)
    ⊎ ((size : ℕ) × (report : RunReport) × IsRunAt lines ds limit text size report × HasNoRoom ds report room bytes)

-- The records of a text as far as they were scanned: how many, their bytes, their cells and their texts.
pub record AreScanned (lines : Bool) (ds : List Directive) (limit : ℕ) (text : List ℕ) (done : SfDone) (values : List SfValue)
    (texts : List ℕ) : Type 0 where
  pub reports : List RunReport
  pub are : AreRecords lines ds limit text reports done.used
  pub count : done.records ≡ length reports
  pub cells : List SfValue
  pub laid : take (length cells) values ≡ cells
  pub rows : AreRows (take done.filled texts) ds reports cells

-- the records were scanned to the end of the text, or to a run that is no record
pub record AreEnded (lines : Bool) (ds : List Directive) (limit : ℕ) (text : List ℕ) (outcome : SfOutcome) (done : SfDone)
    (values : List SfValue) (texts : List ℕ) : Type 0 where
  pub records : AreScanned lines ds limit text done values texts
  pub end : (length text ≤ done.used) × (done.failed ≡ 0)
      ⊎ IsNoRecord lines ds limit (drop done.used text) done.failed outcome

-- the records were scanned as far as there was room
pub record AreCutShort (lines : Bool) (ds : List Directive) (limit : ℕ) (text : List ℕ) (done : SfDone) (values : List SfValue)
    (texts : List ℕ) : Type 0 where
  pub records : AreScanned lines ds limit text done values texts
  pub left : done.used < length text
  pub full : IsFull lines ds limit (drop done.used text) (length values - length records.cells) (length texts - done.filled)

-- the same by the format that the bytes spell
abbrev pub IsEnded : ℕ → List ℕ → Bool → ℕ → List ℕ → SfOutcome → SfDone → List SfValue → List ℕ → Type 0
IsEnded profile format lines limit text outcome done values texts =
    (ds : List Directive) × IsScanFormat profile format ds × AreEnded lines ds limit text outcome done values texts

abbrev pub IsCutShort : ℕ → List ℕ → Bool → ℕ → List ℕ → SfDone → List SfValue → List ℕ → Type 0
IsCutShort profile format lines limit text done values texts =
    (ds : List Directive) × IsScanFormat profile format ds × AreCutShort lines ds limit text done values texts
