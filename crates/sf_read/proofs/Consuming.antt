-- A run consumes no more bytes than there are.
use Rattle.std.proofs.Common.{ℕ, zero, suc, ◌+◌, ◌<◌, ◌≤◌, Bool, true, false, List, [], ◌∷◌, ◌++◌, length, drop, inl, inr, arith}
use Rattle.std.proofs.Common.{length-drop}
use Rattle.std.proofs.lemmas.List.Sums.{sum_by-cons, sum_by-append}
use Rattle.sf_format.specs.declared.directive.Lead.{Lead}
use Rattle.sf_format.specs.declared.directive.Lead.TheVariants.{Any, Minus, Nothing}
use Rattle.sf_format.specs.declared.directive.Shape.{Shape}
use Rattle.sf_format.specs.declared.directive.Shape.TheVariants.{Int, Text, Set, Chars, Float, Count}
use Rattle.sf_format.specs.declared.directive.Conversion.{Conversion}
use Rattle.sf_format.specs.declared.directive.Directive.{Directive}
use Rattle.sf_format.specs.declared.directive.Directive.TheVariants.{Space, Byte, Percent, Conv, Opens}
use Rattle.sf_format.specs.declared.directive.Literal.{Literal}
use Rattle.sf_format.specs.declared.directive.Literal.TheVariants as literal
use Rattle.sf_run.specs.outcome.Ending.{Ending}
use Rattle.sf_run.specs.Steps.{StepEnd, Passes, Stores, Misses, Fails, Step, ByteStep, ItemStep, ConversionStep, StepBy, IsSkipBefore}
use Rattle.sf_run.specs.Steps.{IsSkipUnder, LiteralStep}
use Rattle.sf_run.specs.Runs.{Ran, RunReport, GoesOn, Steps, StepsPast, left_out, over, bytes_used}
use Rattle.sf_run.specs.Limits.{IsCut, RunWithin}

byte_within : (b : ℕ) (x : List ℕ) (k : ℕ) (end : StepEnd) → ByteStep b x k end → k ≤ length x
byte_within b [] k end (zero_bytes, e) = omega arith
byte_within b (y ∷ x) k end (inl h) = omega (arith, h.1)
byte_within b (y ∷ x) k end (inr h) = omega (arith, h.1)

skip_under_within : (lead : Lead) (x : List ℕ) (s : ℕ) → IsSkipUnder lead x s → s ≤ length x
skip_under_within Any x s h = h.holds.0
skip_under_within Minus x s h = omega (arith, h)
skip_under_within Nothing x s h = omega (arith, h)

skip_within : (shape : Shape) (x : List ℕ) (s : ℕ) → IsSkipBefore shape x s → s ≤ length x
skip_within (Int numeral) x s h = skip_under_within numeral.lead x s h
skip_within (Text lead) x s h = skip_under_within lead x s h
skip_within (Set members) x s h = omega (arith, h)
skip_within Chars x s h = omega (arith, h)
skip_within (Float lead) x s h = skip_under_within lead x s h
skip_within Count x s h = omega (arith, h)

item_within : (c : Conversion) (x : List ℕ) (k : ℕ) (end : StepEnd) → ItemStep c x k end → k ≤ length x
item_within c x k end (s, j, skip, item, bytes, ends) =
    omega (arith, bytes, skip_within c.shape x s skip, item.holds.0, length-drop s x)

conversion_within : (c : Conversion) (shape : Shape) (x : List ℕ) (n k : ℕ) (end : StepEnd) → ConversionStep c shape x n k end
    → k ≤ length x
conversion_within c (Int numeral) x n k end h = item_within c x k end h
conversion_within c (Text lead) x n k end h = item_within c x k end h
conversion_within c (Set members) x n k end h = item_within c x k end h
conversion_within c Chars x n k end h = item_within c x k end h
conversion_within c (Float lead) x n k end h = item_within c x k end h
conversion_within c Count x n k end h = omega (arith, h.0)

-- by whether it takes a column
step_by_within : (column : Bool) (c : Conversion) (x : List ℕ) (n k : ℕ) (end : StepEnd) → StepBy column c x n k end → k ≤ length x
step_by_within true c x n k end h = h.0.holds.0
step_by_within false c x n k end h = conversion_within c c.shape x n k end h

literal_within : (l : Literal) (x : List ℕ) (k : ℕ) (end : StepEnd) → LiteralStep l x k end → k ≤ length x
literal_within (literal.Byte b) x k end h = byte_within b x k end h
literal_within literal.Percent x k end (s, j, skip, byte, bytes) =
    omega (arith, bytes, skip.holds.0, byte_within 37 (drop s x) j end byte, length-drop s x)

step_within : (d : Directive) (x : List ℕ) (n k : ℕ) (end : StepEnd) → Step d x n k end → k ≤ length x
step_within Space x n k end h = h.0.holds.0
step_within (Byte b) x n k end h = byte_within b x k end h
step_within Percent x n k end (s, j, skip, byte, bytes) =
    omega (arith, bytes, skip.holds.0, byte_within 37 (drop s x) j end byte, length-drop s x)
step_within (Conv c) x n k end h = step_by_within c.column c x n k end h
step_within (Opens o) x n k end (e, step, is) = literal_within o.literal x k e step

rest_within : (d : Directive) (ds : List Directive) (x : List ℕ) (n : ℕ) (r : Ran) (ran : List Ran) (end : StepEnd)
    → ((m : ℕ) (y : List ℕ) (k : ℕ) (rs : List Ran) → StepsPast m ds y k rs → bytes_used rs ≤ length y)
    → GoesOn end (StepsPast (over d end) ds (drop r.bytes x) (n + r.bytes) ran) ran → r.bytes ≤ length x → bytes_used (r ∷ ran) ≤ length x
rest_within d ds x n r ran Passes within h low =
    omega (arith, sum_by-cons (λ (q : Ran). q.bytes) r ran, within 0 (drop r.bytes x) (n + r.bytes) ran h, length-drop r.bytes x)
rest_within d ds x n r ran (Stores slot v) within h low =
    omega (arith, sum_by-cons (λ (q : Ran). q.bytes) r ran, within 0 (drop r.bytes x) (n + r.bytes) ran h, length-drop r.bytes x)
rest_within d ds x n r ran Misses within h low =
    let later = within (over d Misses) (drop r.bytes x) (n + r.bytes) ran h in
    omega (arith, sum_by-cons (λ (q : Ran). q.bytes) r ran, later, length-drop r.bytes x)
rest_within d ds x n r ran (Fails status) within h low =
    rw h (omega (arith, sum_by-cons (λ (q : Ran). q.bytes) r []))

past_within : (ds : List Directive) (m : ℕ) (x : List ℕ) (n : ℕ) (ran : List Ran) → StepsPast m ds x n ran → bytes_used ran ≤ length x
past_within [] m x n [] h = omega arith
past_within [] m x n (r ∷ ran) h = absurd h
past_within (d ∷ ds) m x n [] h = absurd h
past_within (d ∷ ds) zero x n (r ∷ ran) (is, step, goes_on) =
    rest_within d ds x n r ran r.end (past_within ds) goes_on (step_within d x n r.bytes r.end step)
past_within (d ∷ ds) (suc m) x n (r ∷ ran) (is, rest) =
    let later = past_within ds m x n ran rest in
    rw is (omega (arith, later, sum_by-cons (λ (q : Ran). q.bytes) (left_out d) ran))

pub steps_within : (ds : List Directive) (x : List ℕ) (n : ℕ) (ran : List Ran) → Steps ds x n ran → bytes_used ran ≤ length x
steps_within ds x n ran h = past_within ds 0 x n ran h

-- a run that was cut off had more bytes than its limit
pub cut_below : (ds : List Directive) (x : List ℕ) (m : ℕ) (before : List Ran) → IsCut ds x m before → m < length x
cut_below ds x m before cut =
    omega (
      arith,
      steps_within ds x 0 (before ++ (cut.cut ∷ cut.rest)) cut.steps,
      cut.high,
      sum_by-append (λ (q : Ran). q.bytes) before (cut.cut ∷ cut.rest),
      sum_by-cons (λ (q : Ran). q.bytes) cut.cut cut.rest,
    )

-- a report's bytes are among those of its input
pub report_within : (ds : List Directive) (m : ℕ) (x : List ℕ) (ending : Ending) (report : RunReport) → RunWithin ds m x ending report
    → report.used ≤ length x
report_within ds m x ending report (inl (few, (ran, steps, met, is_met, is))) =
    rw is (steps_within ds x 0 ran steps)
report_within ds m x ending report (inr (before, cut, is)) =
    rw is (omega (arith, cut_below ds x m before cut))
