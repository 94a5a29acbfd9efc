-- What a scan answers to C.
use Rattle.std.specs.Prelude.{◌≡◌, ◌<◌, ◌⊎◌, ℕ, List, length, min, take, IsSome}
use Rattle.sf_format.specs.declared.directive.Directive.{Directive}
use Rattle.sf_format.specs.Proper.{destinations_of}
use Rattle.sf_format.specs.Widths.{width_sum}
use Rattle.sf_run.specs.outcome.Ending.TheVariants.{End}
use Rattle.sf_run.specs.Limits.{RunTold, RunWithin}
use Rattle.sf_run.specs.Runs.{RunReport, c_return}
use Rattle.sf_c.specs.declared.outcome.SfOutcome.{SfOutcome}
use Rattle.sf_c.specs.declared.values.SfValue.{SfValue}
use Rattle.sf_c.specs.Formats.{IsScanFormat}
use Rattle.sf_c.specs.Numbers.{met_number, status_number}
use Rattle.sf_c.specs.Values.{IsRow, texts_to}

-- what a report says but for its values, of a format with so many slots
abbrev pub outcome_by : RunReport → ℕ → SfOutcome
outcome_by r slots = record {
  c_return = c_return r;
  used = r.used;
  at = r.at;
  converted = r.converted;
  fault_at = 0;
  assigned = r.assigned;
  status = status_number r.status;
  met = met_number r.met;
  fault = 0;
  slots = slots;
}

abbrev pub slots_in : List Directive → ℕ
slots_in ds = length (destinations_of ds)

-- the outcome is that of the run by the format over the text (C11 7.21.6.7)
pub record IsRunOf (ds : List Directive) (limit : ℕ) (text : List ℕ) (outcome : SfOutcome) (report : RunReport) : Type 0 where
  pub told : RunTold ds limit text End report
  pub bounded : IsSome (width_sum ds) → RunWithin ds limit text End report
  pub outcome_is : outcome ≡ outcome_by report (slots_in ds)

-- the text was scanned: the cells and the texts are those of the run
pub record IsScannedBy (ds : List Directive) (text : List ℕ) (limit : ℕ) (outcome : SfOutcome) (values : List SfValue) (texts : List ℕ)
    : Type 0 where
  pub report : RunReport
  pub run : IsRunOf ds limit text outcome report
  pub row : IsRow texts ds report.values (take (slots_in ds) values)

-- there is no room for so many cells, or for so many bytes of texts
abbrev pub HasNoRoom : List Directive → RunReport → ℕ → ℕ → Type 0
HasNoRoom ds report room bytes =
    (room < slots_in ds) ⊎ (min bytes 4294967295 < length (texts_to (slots_in ds) report.values))

-- the text was scanned, and there is no room for what the slots were given
pub record LacksRoomBy (ds : List Directive) (text : List ℕ) (limit : ℕ) (outcome : SfOutcome) (room bytes : ℕ) : Type 0 where
  pub report : RunReport
  pub run : IsRunOf ds limit text outcome report
  pub none : HasNoRoom ds report room bytes

-- the same by the format that the bytes spell
abbrev pub IsScanned : ℕ → List ℕ → List ℕ → ℕ → SfOutcome → List SfValue → List ℕ → Type 0
IsScanned profile format text limit outcome values texts =
    (ds : List Directive) × IsScanFormat profile format ds × IsScannedBy ds text limit outcome values texts

abbrev pub LacksRoom : ℕ → List ℕ → List ℕ → ℕ → SfOutcome → ℕ → ℕ → Type 0
LacksRoom profile format text limit outcome room bytes =
    (ds : List Directive) × IsScanFormat profile format ds × LacksRoomBy ds text limit outcome room bytes
