-- Whole runs and their reports (C11 7.21.6.2p4, p16).
use Rattle.std.specs.Prelude.{◌≡◌, ℕ, zero, suc, ◌+◌, ◌<◌, Bool, true, false, if◌then◌else◌, List, [], ◌∷◌, ◌++◌, length, drop, Option}
use Rattle.std.specs.Prelude.{Some, None}
use Rattle.std.specs.Prelude.{SomeIff, is_some, ℤ, pos, negsuc}
use Rattle.std.specs.Prelude.{◌&&◌, nat_eq}
use Rattle.std.specs.List.{sum_by, count_by, filter_map, list_any}
use Rattle.sf_base.specs.Data.{Assigned}
use Rattle.sf_format.specs.declared.directive.Shape.{Shape}
use Rattle.sf_format.specs.declared.directive.Shape.TheVariants.{Count}
use Rattle.sf_format.specs.declared.directive.Directive.{Directive}
use Rattle.sf_format.specs.declared.directive.Directive.TheVariants.{Conv}
use Rattle.sf_format.specs.Proper.{more_of}
use Rattle.sf_report.specs.declared.outcome.Ending.{Ending}
use Rattle.sf_report.specs.declared.outcome.Status.{Status}
use Rattle.sf_report.specs.declared.outcome.Status.TheVariants.{Done, InputFailure}
use Rattle.sf_report.specs.Steps.{StepEnd, Passes, Stores, Misses, Fails, Step}

-- a directive that ran: the bytes that it consumed, and how it ended
pub record Ran : Type 0 where
  pub directive : Directive
  pub bytes : ℕ
  pub end : StepEnd

-- the rest of a run, which a failure ends
abbrev pub GoesOn : StepEnd → Type 0 → List Ran → Type 0
GoesOn Passes rest ran = rest
GoesOn (Stores slot v) rest ran = rest
GoesOn Misses rest ran = rest
GoesOn (Fails status) rest ran = ran ≡ []

-- how many directives after it are missing with it: where it is missing, the rest of the group that it opens
abbrev pub over : Directive → StepEnd → ℕ
over d Misses = more_of d
over d _ = 0

-- a directive that is missing with the first of its group: it passes, and takes nothing
abbrev pub left_out : Directive → Ran
left_out d = record { directive = d; bytes = 0; end = Misses }

-- The directives that ran are ds up to and including the first that fails, each on what those before it
-- left of x; n bytes were consumed before the first (C11 7.21.6.2p4). The first m of ds are missing with one before them.
abbrev pub StepsPast : ℕ → List Directive → List ℕ → ℕ → List Ran → Type 0
StepsPast m [] x n [] = Unit {0}
StepsPast m [] x n (r ∷ ran) = ⊥
StepsPast m (d ∷ ds) x n [] = ⊥
StepsPast zero (d ∷ ds) x n (r ∷ ran) =
    (r.directive ≡ d) × Step d x n r.bytes r.end
    × GoesOn r.end (StepsPast (over d r.end) ds (drop r.bytes x) (n + r.bytes) ran) ran
StepsPast (suc m) (d ∷ ds) x n (r ∷ ran) = (r ≡ left_out d) × StepsPast m ds x n ran

-- the same, where none is missing before the first
abbrev pub Steps : List Directive → List ℕ → ℕ → List Ran → Type 0
Steps ds x n ran = StepsPast 0 ds x n ran

-- ---- what is reported of the directives that ran

abbrev pub bytes_used : List Ran → ℕ
bytes_used ran = sum_by (λ r. r.bytes) ran

abbrev pub failure_of : StepEnd → Option Status
failure_of (Fails status) = Some status
failure_of _ = None

abbrev pub status_of : List Ran → Status
status_of [] = Done
status_of (r ∷ ran) = elim (failure_of r.end) [ None ↦ status_of ran | Some status ↦ status ]

-- the directive that failed, counted from 1, or 0
abbrev pub place_of_failure : List Ran → ℕ
place_of_failure ran = if list_any (λ r. is_some (failure_of r.end)) ran then length ran else 0

-- the values in the order in which they were stored, each with its slot
abbrev pub value_stored : Ran → Option Assigned
value_stored r = elim r.end [
  | Passes ↦ None
  | Stores slot v ↦ Some (record { slot = slot; datum = v })
  | Misses ↦ None
  | Fails status ↦ None
]

abbrev pub values_stored : List Ran → List Assigned
values_stored ran = filter_map value_stored ran

abbrev pub is_shape_converted : Shape → Bool
is_shape_converted Count = false
is_shape_converted _ = true

-- conversions, but for n and %%
abbrev pub is_conversion : Directive → Bool
is_conversion (Conv c) = is_shape_converted c.shape
is_conversion _ = false

-- it passed with an item; one that is missing does not count
abbrev pub passed : StepEnd → Bool
passed (Fails status) = false
passed Misses = false
passed _ = true

abbrev pub has_stored : StepEnd → Bool
has_stored (Stores slot v) = true
has_stored _ = false

-- the conversions that stored an item (C11 7.21.6.2p16)
abbrev pub count_assigned : List Ran → ℕ
count_assigned ran = count_by (λ r. is_conversion r.directive && has_stored r.end) ran

-- the conversions that completed (C11 7.21.6.2p16: "before the first conversion has completed")
abbrev pub count_converted : List Ran → ℕ
count_converted ran = count_by (λ r. is_conversion r.directive && passed r.end) ran

-- ---- reports

pub record RunReport : Type 0 where
  pub status : Status
  pub at : ℕ
  pub assigned : ℕ
  pub converted : ℕ
  pub used : ℕ
  pub met : Option Ending
  pub values : List Assigned

abbrev pub report_of : List Ran → Option Ending → RunReport
report_of ran met = record {
  status = status_of ran;
  at = place_of_failure ran;
  assigned = count_assigned ran;
  converted = count_converted ran;
  used = bytes_used ran;
  met = met;
  values = values_stored ran;
}

-- the run on x uses k bytes
abbrev pub Uses : List Directive → List ℕ → ℕ → Type 0
Uses ds x k = (ran : List Ran) × Steps ds x 0 ran × (bytes_used ran ≡ k)

-- after the bytes x the run would consume some byte next
abbrev pub IsOpen : List Directive → List ℕ → Type 0
IsOpen ds x = (b : ℕ) × (b < 256) × Uses ds (x ++ b ∷ []) (length x + 1)

-- the report of the directives on an input that ends so; it met the ending where the whole input is open
abbrev pub Run : List Directive → List ℕ → Ending → RunReport → Type 0
Run ds x ending report =
    (ran : List Ran) × Steps ds x 0 ran × (met : Option Ending) × SomeIff met (IsOpen ds x) ending × (report ≡ report_of ran met)

-- what fscanf returns: -1, EOF, for an input failure before the first conversion has completed (C11 7.21.6.2p16)
abbrev pub is_input_failure : Status → Bool
is_input_failure InputFailure = true
is_input_failure _ = false

abbrev pub c_return : RunReport → ℤ
c_return report =
    if is_input_failure report.status && nat_eq report.converted 0 then negsuc 0 else pos report.assigned
