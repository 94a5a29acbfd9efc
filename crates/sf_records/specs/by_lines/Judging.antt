-- What is written of one line, and what comes of it by a format, and by the formats in turn.
use Rattle.std.specs.Prelude.{◌≡◌, ◌≤◌, ◌++◌, ◌&&◌, ℕ, Bool, true, false, if◌then◌else◌, List, length, Option, Some, None, Result, Ok, Err}
use Rattle.std.specs.List.{AllByRecursion, Contains}
use Rattle.std.specs.declared.alloc.AllocError.{AllocError}
use Rattle.sf_format.specs.declared.directive.Directive.{Directive}
use Rattle.sf_forms.specs.declared.makers.maker.Unwritten.TheVariants as unwritten
use Rattle.sf_forms.specs.makers.Works.{Makes, Work, sink_failed, with_met}
use Rattle.sf_run.specs.outcome.Ending.{Ending}
use Rattle.sf_run.specs.outcome.Ending.TheVariants.{End}
use Rattle.sf_run.specs.Limits.{RunWithin}
use Rattle.sf_run.specs.outcome.Status.TheVariants.{Done}
use Rattle.sf_run.specs.Quick.{IsEndedWithin}
use Rattle.sf_run.specs.Runs.{RunReport}
use Rattle.sf_records.specs.declared.by_lines.options.LinesOptions.{LinesOptions}
use Rattle.sf_records.specs.declared.by_lines.end.LineFault.TheVariants as why
use Rattle.sf_records.specs.declared.by_lines.end.LinesFault.TheVariants as faults
use Rattle.sf_records.specs.declared.by_lines.judge.Judged.{Judged}
use Rattle.sf_records.specs.declared.by_lines.judge.Judged.TheVariants.{Skipped, Written, Stopped}
use Rattle.sf_records.specs.declared.by_lines.judge.Tried.{Tried}
use Rattle.sf_records.specs.declared.by_lines.judge.Tried.TheVariants.{Matched, Missed, Refused}
use Rattle.sf_records.specs.declared.by_lines.judge.Verdict.{Verdict}
use Rattle.sf_records.specs.declared.by_lines.judge.Verdict.TheVariants.{Is, Fails}
use Rattle.sf_records.specs.by_lines.Turns.{Matches, Misses, Picks, fault_of, is_other, number_of, used_whole}

-- ---- a line and one format

-- these bytes begin with the line
abbrev pub BeginsWith : List ℕ → List ℕ → Type 0
BeginsWith ended line = (behind : List ℕ) × (ended ≡ line ++ behind)

-- the run of the format on the line has this report, but for what it met, and the line is judged alike by it
abbrev pub IsRunOn : LinesOptions → List Directive → List ℕ → RunReport → Type 0
IsRunOn o ds line report = (met : Option Ending) × RunWithin ds o.limit line End (with_met report met)
    × (fault_of o line (with_met report met) ≡ fault_of o line report)

-- the same, and the line is a match by it
abbrev pub Fits : LinesOptions → List Directive → List ℕ → RunReport → Type 0
Fits o ds line report = (met : Option Ending) × RunWithin ds o.limit line End (with_met report met)
    × (fault_of o line (with_met report met) ≡ None)

-- The run of the format on these bytes, which begin with the line, ends before one of them is lacking, or one that the limit
-- allows; a store of this capacity has room for its texts; and it leaves a byte of the line, or is Done at its end.
pub record IsSeen (o : LinesOptions) (ds : List Directive) (line ended : List ℕ) (capacity : ℕ) : Type 0 where
  pub run : IsEndedWithin ds o.limit ended capacity
  pub within : run.report.used ≤ length line
  pub whole : run.report.used ≡ length line → run.report.status ≡ Done

-- the line matches the format, and what is made of it was to be written; or it doesn't, for this; or memory was refused
abbrev pub Tries : LinesOptions → List Directive → Work → List ℕ → Option (List ℕ) → Option (List ℕ) → Tried → Type 0
Tries o ds made line old new (Matched wrote) = (r : RunReport) × RunWithin ds o.limit line End r × (fault_of o line r ≡ None)
    × Makes made r old new wrote
Tries o ds made line old new (Missed fault) = (r : RunReport) × RunWithin ds o.limit line End r × (fault_of o line r ≡ Some fault)
Tries o ds made line old new Refused = Unit {0}

-- the sink failed within the text
abbrev pub is_unwritten : Tried → Bool
is_unwritten (Matched wrote) = sink_failed wrote
is_unwritten _ = false

-- something was to be written
abbrev pub is_matched : Tried → Bool
is_matched (Matched wrote) = true
is_matched _ = false

-- ---- a line and the formats in turn

-- the same by the formats in turn: the first that the line matches counts, or the last
abbrev pub TriesEach : LinesOptions → List (List Directive) → (ℕ → List Directive → Work) → List ℕ → Option (List ℕ) → Option (List ℕ)
    → Tried → Type 0
TriesEach o formats makes line old new (Matched wrote) = (ds : List Directive) × (r : RunReport)
    × (picks : Picks o formats line ds r) × (fault_of o line r ≡ None) × Makes (makes (number_of picks) ds) r old new wrote
TriesEach o formats makes line old new (Missed fault) = (ds : List Directive) × (r : RunReport) × Picks o formats line ds r
    × (fault_of o line r ≡ Some fault)
TriesEach o formats makes line old new Refused = Unit {0}

-- what comes of that, or why the line fails
abbrev pub verdict_by : Bool → Tried → Verdict
verdict_by matching (Matched (Ok _)) = Is Written
verdict_by matching (Matched (Err unwritten.Unfit)) = Fails why.Unfit
verdict_by matching (Matched (Err unwritten.Write)) = Is (Stopped faults.Write)
verdict_by matching (Matched (Err unwritten.Memory)) = Is (Stopped faults.Memory)
verdict_by matching (Missed fault) = if matching && is_other fault then Is Skipped else Fails fault
verdict_by matching Refused = Is (Stopped faults.Memory)

abbrev pub is_write_fault : Judged → Bool
is_write_fault (Stopped faults.Write) = true
is_write_fault _ = false

-- ---- a line and the formats by which lines are passed over

-- whether the line matches the format; or memory was refused
abbrev pub MatchesOrNot : LinesOptions → List ℕ → List Directive → Result Bool AllocError → Type 0
MatchesOrNot o line ds (Ok true) = Matches o line ds
MatchesOrNot o line ds (Ok false) = Misses o line ds
MatchesOrNot o line ds (Err refused) = Unit {0}

-- whether one of the formats uses all of it; or memory was refused
abbrev pub IgnoresOrNot : LinesOptions → List ℕ → List (List Directive) → Result Bool AllocError → Type 0
IgnoresOrNot o line ignored (Ok true) = (ds : List Directive) × Contains ignored ds × Matches (used_whole o) line ds
IgnoresOrNot o line ignored (Ok false) = AllByRecursion (Misses (used_whole o) line) ignored
IgnoresOrNot o line ignored (Err refused) = Unit {0}
