-- What comes of one line.
use Rattle.std.specs.Prelude.{◌≡◌, ◌≤◌, ◌<◌, ◌+◌, ◌⊎◌, ◌++◌, ◌∷◌, ◌&&◌, not, ℕ, nat_lt, Bool, true, false, if◌then◌else◌, List, []}
use Rattle.std.specs.Prelude.{length, take, Option, Some, None, IsSome, Result, Ok, Err}
use Rattle.std.specs.List.{AllByRecursion, Contains}
use Rattle.sf_format.specs.declared.directive.Directive.{Directive}
use Rattle.sf_format.specs.Proper.{AreProper}
use Rattle.sf_forms.specs.makers.Works.{Work, outcome_of}
use Rattle.sf_run.specs.outcome.Ending.TheVariants.{End}
use Rattle.sf_run.specs.outcome.Status.{Status}
use Rattle.sf_run.specs.outcome.Status.TheVariants.{Done, OutOfRange}
use Rattle.sf_run.specs.outcome.Outcome.{Outcome}
use Rattle.sf_run.specs.Runs.{RunReport}
use Rattle.sf_run.specs.Limits.{RunWithin}
use Rattle.sf_records.specs.declared.by_lines.options.LinesOptions.{LinesOptions}
use Rattle.sf_records.specs.declared.by_lines.end.LineFault.{LineFault}
use Rattle.sf_records.specs.declared.by_lines.end.LineFault.TheVariants.{Failed, LeftOver, TooLong, Unfit}

-- How lines are scanned; by which formats lines are passed over, and by which they are scanned; what is made of the
-- report of each of these, by its number, counted from 1; and what is reported of a line that fails, by its number, what
-- was read of it, and why it does.
pub record LineWork : Type 0 where
  pub options : LinesOptions
  pub ignored : List (List Directive)
  pub formats : List (List Directive)
  pub makes : ℕ → List Directive → Work
  pub telling : ℕ → List ℕ → LineFault → List ℕ

abbrev pub work_of : LinesOptions → List (List Directive) → List (List Directive) → (ℕ → List Directive → Work)
    → (ℕ → List ℕ → LineFault → List ℕ) → LineWork
work_of options ignored formats makes telling =
    record { options = options; ignored = ignored; formats = formats; makes = makes; telling = telling }

-- the formats are accepted, and there is one at least by which lines are scanned
pub record AreScanned (w : LineWork) : Type 0 where
  pub ignored : AllByRecursion AreProper w.ignored
  pub proper : AllByRecursion AreProper w.formats
  pub some : 0 < length w.formats

-- ---- a line and a format

abbrev pub fault_from : Bool → ℕ → Status → Outcome → Option LineFault
fault_from whole size Done o = if whole && nat_lt o.used size then Some (LeftOver o.used) else None
fault_from whole size _ o = Some (Failed o)

-- why a line of so many bytes doesn't match; where it has to be used whole, one of which something is left doesn't
abbrev pub fault_by : Bool → ℕ → Outcome → Option LineFault
fault_by whole size o = fault_from whole size o.status o

abbrev pub fault_of : LinesOptions → List ℕ → RunReport → Option LineFault
fault_of o line r = fault_by o.whole (length line) (outcome_of r)

-- the line doesn't match the format
abbrev pub Misses : LinesOptions → List ℕ → List Directive → Type 0
Misses o line ds = (r : RunReport) × RunWithin ds o.limit line End r × IsSome (fault_of o line r)

-- The format that counts on a line, with its report: the first that the line matches, or the last where it matches none.
pub record Picks (o : LinesOptions) (formats : List (List Directive)) (line : List ℕ) (ds : List Directive) (r : RunReport) : Type 0 where
  pub before : List (List Directive)
  pub after : List (List Directive)
  pub among : formats ≡ before ++ ds ∷ after
  pub missed : AllByRecursion (Misses o line) before
  pub ran : RunWithin ds o.limit line End r
  pub counts : (fault_of o line r ≡ None) ⊎ (after ≡ [])

-- its number, counted from 1
abbrev pub number_of : {o : LinesOptions} {formats : List (List Directive)} {line : List ℕ} {ds : List Directive} {r : RunReport}
    → Picks o formats line ds r → ℕ
number_of picks = length picks.before + 1

-- the line matches it
abbrev pub Matches : LinesOptions → List ℕ → List Directive → Type 0
Matches o line ds = (r : RunReport) × RunWithin ds o.limit line End r × (fault_of o line r ≡ None)

-- ---- lines that are passed over

-- where a format has to use a line to its end
abbrev pub used_whole : LinesOptions → LinesOptions
used_whole o = record o { whole = true }

-- one of the formats by which lines are passed over is Done on the line, and uses all of it
abbrev pub IsIgnored : LineWork → List ℕ → Type 0
IsIgnored w line = (ds : List Directive) × Contains w.ignored ds × Matches (used_whole w.options) line ds

-- none of them does
abbrev pub IsRead : LineWork → List ℕ → Type 0
IsRead w line = AllByRecursion (Misses (used_whole w.options) line) w.ignored

abbrev pub is_out_of_range : Status → Bool
is_out_of_range OutOfRange = true
is_out_of_range _ = false

-- a line that fails so matches no format, in a way that leaves open no number
abbrev pub is_other : LineFault → Bool
is_other (Failed o) = not (is_out_of_range o.status)
is_other (LeftOver at) = true
is_other TooLong = false
is_other Unfit = false

-- ---- a line

-- a line that fails: what was read of it, and why it does
abbrev pub Miss : Type 0
Miss = List ℕ × LineFault

-- what comes of a line: nothing where it is passed over; else the text that is written, or the line as one that fails
abbrev pub Turn : Type 0
Turn = Option (Result (List ℕ) Miss)

-- a line that matches is written, if its values fit
abbrev pub written_by : Bool → List ℕ → List ℕ → Turn
written_by fits text line = Some (if fits then Ok text else Err (line, Unfit))

-- by the format that counts, whose run has this and for which this is made
abbrev pub judged : Bool → Work → RunReport → List ℕ → Option LineFault → Turn
judged matching made r line None = written_by (made.fits r) (made.text r) line
judged matching made r line (Some fault) = if matching && is_other fault then None else Some (Err (line, fault))

abbrev pub turn_by : LineWork → ℕ → List Directive → RunReport → List ℕ → Turn
turn_by w number ds r line = judged w.options.matching (w.makes number ds) r line (fault_of w.options line r)

-- A line above the limit fails, by its first bytes; one that is ignored is passed over; any other is judged by the format that
-- counts.
abbrev pub IsJudged : LineWork → List ℕ → Turn → Type 0
IsJudged w line turn =
    (w.options.limit < length line) × (turn ≡ Some (Err (take w.options.limit line, TooLong)))
    ⊎ (length line ≤ w.options.limit) × (IsIgnored w line × (turn ≡ None)
    ⊎ IsRead w line × ((ds : List Directive) × (r : RunReport) × (picks : Picks w.options w.formats line ds r)
    × (turn ≡ turn_by w (number_of picks) ds r line)))

-- the line with this number, counted from 1
abbrev pub Comes : LineWork → ℕ → List ℕ → Turn → Type 0
Comes w number line turn = (number ≤ w.options.skip) × (turn ≡ None) ⊎ (w.options.skip < number) × IsJudged w line turn
