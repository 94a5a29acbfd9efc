-- A run that is Done makes the same steps on every front of its input that has the bytes which it used.
use Rattle.std.proofs.Common.{◌≡◌, ℕ, zero, suc, ◌+◌, ◌≤◌, Bool, true, false, List, [], ◌∷◌, ◌++◌, length, take, drop, None, subst, arith}
use Rattle.std.proofs.Common.{inl, inr, refl, ◌∙◌}
use Rattle.std.proofs.Common.{length-append, length-drop}
use Rattle.std.proofs.lemmas.List.{take-append-le, drop-append-le}
use Rattle.std.proofs.lemmas.List.Sums.{sum_by-cons}
use Rattle.sf_base.specs.Bytes.{IsSkip}
use Rattle.sf_format.specs.declared.directive.Lead.{Lead}
use Rattle.sf_format.specs.declared.directive.Lead.TheVariants.{Any, Minus, Nothing}
use Rattle.sf_format.specs.declared.directive.Shape.{Shape}
use Rattle.sf_format.specs.declared.directive.Shape.TheVariants.{Int, Text, Set, Chars, Float, Count}
use Rattle.sf_format.specs.declared.directive.Conversion.{Conversion}
use Rattle.sf_format.specs.declared.directive.Directive.{Directive}
use Rattle.sf_format.specs.declared.directive.Directive.TheVariants.{Conv, Opens}
use Rattle.sf_format.specs.declared.directive.Literal.{Literal}
use Rattle.sf_format.specs.declared.directive.Literal.TheVariants as literal
use Rattle.sf_item.specs.Columns.{IsColumn}
use Rattle.sf_item.specs.Matching.{BeginsMatch, IsItem}
use Rattle.sf_report.specs.declared.outcome.Status.TheVariants.{Done, InputFailure}
use Rattle.sf_report.specs.Steps.{StepEnd, Fails, ByteStep, ConversionStep, IsSkipUnder, IsSkipBefore, ItemEnds, ItemStep, Step}
use Rattle.sf_report.specs.Steps.{EmptyItem, ColumnEnds, LiteralStep, OpenerStep, PercentStep, StepBy, missed}
use Rattle.sf_report.specs.Runs.{GoesOn, Ran, RunReport, Steps, StepsPast, left_out, over, status_of, bytes_used}
use Rattle.sf_report.specs.Limits.{TellsWithin}
use Rattle.sf_report.specs.Laws.{EachDoneRunStays}
use Rattle.sf_report.proofs.Told.{met_within, one_report, within_met}
use Rattle.sf_report.proofs.Inputs.{open_all}

-- a directive that ends so has passed
abbrev HasPassed : StepEnd → Type 0
HasPassed (Fails status) = ⊥
HasPassed _ = Unit {0}

-- ---- the greatest front of an input is that of its fronts which have it

skip_front : (x z : List ℕ) (k : ℕ) → k ≤ length x → IsSkip (x ++ z) k → IsSkip x k
skip_front x z k le g = grind (arith, take-append-le, length-append)

item_at_front : (c : Conversion) (x z : List ℕ) (k : ℕ) → k ≤ length x → IsItem c (x ++ z) k → IsItem c x k
item_at_front c x z k le g = record {
  holds = (le, g.holds.1, subst (BeginsMatch c) (take-append-le k x z le) g.holds.2);
  above = λ j h. grind (arith, length-append, take-append-le);
}

-- ---- one directive

byte_front : (b : ℕ) (x z : List ℕ) (k : ℕ) (end : StepEnd) → HasPassed end → k ≤ length x → ByteStep b (x ++ z) k end → ByteStep b x k end
byte_front b x z k end ok le h = grind arith

skip_under_front : (lead : Lead) (x z : List ℕ) (k : ℕ) → k ≤ length x → IsSkipUnder lead (x ++ z) k → IsSkipUnder lead x k
skip_under_front Any x z k le h = skip_front x z k le h
skip_under_front Minus x z k le h = h
skip_under_front Nothing x z k le h = h

skip_before_front : (shape : Shape) (x z : List ℕ) (k : ℕ) → k ≤ length x → IsSkipBefore shape (x ++ z) k → IsSkipBefore shape x k
skip_before_front shape x z k le h = grind (arith, skip_under_front)

ends_front : (c : Conversion) (x z : List ℕ) (j : ℕ) (end : StepEnd) → HasPassed end → j ≤ length x → ItemEnds c (x ++ z) j end
    → ItemEnds c x j end
ends_front c x z j end ok le h = grind (arith, take-append-le)

item_front : (c : Conversion) (x z : List ℕ) (k : ℕ) (end : StepEnd) → HasPassed end → k ≤ length x → ItemStep c (x ++ z) k end
    → ItemStep c x k end
item_front c x z k end ok le h3 = grind (arith, drop-append-le, length-drop, skip_before_front, item_at_front, ends_front)

conversion_front : (c : Conversion) (shape : Shape) (x z : List ℕ) (n k : ℕ) (end : StepEnd) → HasPassed end → k ≤ length x
    → ConversionStep c shape (x ++ z) n k end → ConversionStep c shape x n k end
conversion_front c (Int numeral) x z n k end ok le h = item_front c x z k end ok le h
conversion_front c (Text lead) x z n k end ok le h = item_front c x z k end ok le h
conversion_front c (Set members) x z n k end ok le h = item_front c x z k end ok le h
conversion_front c Chars x z n k end ok le h = item_front c x z k end ok le h
conversion_front c (Float lead) x z n k end ok le h = item_front c x z k end ok le h
conversion_front c Count x z n k end ok le h = h

-- ---- columns

column_len_front : (c : Conversion) (x z : List ℕ) (k : ℕ) → k ≤ length x → IsColumn c (x ++ z) k → IsColumn c x k
column_len_front c x z k le g = record {
  holds = (le, g.holds.1);
  above = λ j h. g.above j (omega (arith, h.0, length-append x z), h.1);
}

empty_front : (optional : Bool) (x z : List ℕ) (end : StepEnd) → HasPassed end → EmptyItem optional z end → EmptyItem optional x end
empty_front true x z end ok h = h
empty_front false x z end ok h = grind arith

column_ends_front : (c : Conversion) (x z s : List ℕ) (end : StepEnd) → HasPassed end → ColumnEnds c z s end → ColumnEnds c x s end
column_ends_front c x z [] end ok h = empty_front c.optional x z end ok h
column_ends_front c x z (b ∷ s) end ok h = h

front_by : (c : Conversion) (column : Bool) (x z : List ℕ) (n k : ℕ) (end : StepEnd) → HasPassed end → k ≤ length x
    → StepBy column c (x ++ z) n k end → StepBy column c x n k end
front_by c true x z n k end ok le (column, ends) = (
  column_len_front c x z k le column,
  column_ends_front c x (x ++ z) (take k x) end ok (subst (λ s. ColumnEnds c (x ++ z) s end) (take-append-le k x z le) ends),
)
front_by c false x z n k end ok le h = conversion_front c c.shape x z n k end ok le h

-- ---- literals that open a group

-- such a literal may end otherwise where it fails, and is missing either way
byte_missed : (b : ℕ) (x z : List ℕ) (k : ℕ) (e : StepEnd) → k ≤ length x → ByteStep b (x ++ z) k e
    → (f : StepEnd) × ByteStep b x k f × (missed e ≡ missed f)
byte_missed b [] [] k e le h = (e, h, refl)
byte_missed b [] (y ∷ z) k e le (inl h) = absurd (omega (arith, le, h.1))
byte_missed b [] (y ∷ z) k e le (inr h) = (Fails InputFailure, (h.1, refl), rw h.2 refl)
byte_missed b (y ∷ x) z k e le h = (e, h, refl)

percent_missed : (x z : List ℕ) (k : ℕ) (e : StepEnd) → k ≤ length x → PercentStep (x ++ z) k e
    → (f : StepEnd) × PercentStep x k f × (missed e ≡ missed f)
percent_missed x z k e le (s, j, skip, byte, is) =
    let low : s ≤ length x = omega (arith, le, is) in
    let left : j ≤ length (drop s x) = omega (arith, le, is, length-drop s x) in
    let here = byte_missed 37 (drop s x) z j e left (subst (λ y. ByteStep 37 y j e) (drop-append-le s x z low) byte) in
    (here.0, (s, j, skip_front x z s low skip, here.1, is), here.2)

literal_missed : (l : Literal) (x z : List ℕ) (k : ℕ) (e : StepEnd) → k ≤ length x → LiteralStep l (x ++ z) k e
    → (f : StepEnd) × LiteralStep l x k f × (missed e ≡ missed f)
literal_missed (literal.Byte b) x z k e le h = byte_missed b x z k e le h
literal_missed literal.Percent x z k e le h = percent_missed x z k e le h

opener_front : (l : Literal) (x z : List ℕ) (k : ℕ) (end : StepEnd) → k ≤ length x → OpenerStep l (x ++ z) k end → OpenerStep l x k end
opener_front l x z k end le (e, step, is) = let here = literal_missed l x z k e le step in (here.0, here.1, is ∙ here.2)

-- ---- each directive

-- a directive that passes makes the same step on every front that has the bytes which it consumed
step_front : (d : Directive) (x z : List ℕ) (n k : ℕ) (end : StepEnd) → HasPassed end → k ≤ length x → Step d (x ++ z) n k end
    → Step d x n k end
step_front (Conv c) x z n k end ok le h = front_by c c.column x z n k end ok le h
step_front (Opens o) x z n k end ok le h = opener_front o.literal x z k end le h
step_front d x z n k end ok le h = grind (arith, skip_front, byte_front, drop-append-le, length-drop)

-- ---- no directive fails as Done

-- ---- a list of steps

-- by the end of the first
abbrev RestStays : ℕ → List Directive → List ℕ → List ℕ → ℕ → ℕ → List Ran → Type 0
RestStays m ds x z n k ran = status_of ran ≡ Done → bytes_used ran ≤ length (drop k x) → StepsPast m ds (drop k x ++ z) (n + k) ran
    → StepsPast m ds (drop k x) (n + k) ran

abbrev OneStep : Directive → List Directive → List ℕ → ℕ → ℕ → StepEnd → List Ran → Type 0
OneStep d ds x n k end ran = Step d x n k end × GoesOn end (StepsPast (over d end) ds (drop k x) (n + k) ran) ran

first_front : (d : Directive) (ds : List Directive) (x z : List ℕ) (n k : ℕ) (end : StepEnd) (ran : List Ran)
    → status_of (record { directive = d; bytes = k; end = end } ∷ ran) ≡ Done → k + bytes_used ran ≤ length x
    → RestStays (over d end) ds x z n k ran → OneStep d ds (x ++ z) n k end ran → OneStep d ds x n k end ran
first_front d ds x z n k end ran done le rest h4 = grind (arith, step_front, length-drop, drop-append-le)

past_front : (m : ℕ) (ds : List Directive) (x z : List ℕ) (n : ℕ) (ran : List Ran) → status_of ran ≡ Done → bytes_used ran ≤ length x
    → StepsPast m ds (x ++ z) n ran → StepsPast m ds x n ran
past_front m [] x z n [] done le h = tt
past_front m [] x z n (r ∷ ran) done le h = absurd h
past_front m (d ∷ ds) x z n [] done le h = absurd h
past_front zero (d ∷ ds) x z n (r ∷ ran) done le h =
    let all : bytes_used (r ∷ ran) ≡ r.bytes + bytes_used ran = sum_by-cons (λ (s : Ran). s.bytes) r ran in
    let first = first_front d ds x z n r.bytes r.end ran done (omega (arith, all, le))
    (past_front (over d r.end) ds (drop r.bytes x) z (n + r.bytes) ran) (h.1, h.2) in
    (h.0, first.0, first.1)
past_front (suc m) (d ∷ ds) x z n (r ∷ ran) done le h =
    let all : bytes_used (r ∷ ran) ≡ r.bytes + bytes_used ran = sum_by-cons (λ (s : Ran). s.bytes) r ran in
    let rest : status_of (left_out d ∷ ran) ≡ Done = subst (λ (s : Ran). status_of (s ∷ ran) ≡ Done) h.0 done in
    (h.0, past_front m ds x z n ran rest (omega (arith, all, le)) h.1)

steps_front : (ds : List Directive) (x z : List ℕ) (n : ℕ) (ran : List Ran) → status_of ran ≡ Done → bytes_used ran ≤ length x
    → Steps ds (x ++ z) n ran → Steps ds x n ran
steps_front ds x z n ran done le h = past_front 0 ds x z n ran done le h

-- ---- the run

told_front : (ds : List Directive) (m : ℕ) (x z : List ℕ) (report : RunReport) → report.status ≡ Done → report.used ≤ length x
    → TellsWithin ds m (x ++ z) report → TellsWithin ds m x report
told_front ds m x z report done le h3 = grind (arith, steps_front)

pub done_runs_stay : EachDoneRunStays
done_runs_stay ds proper m x z first second report run done le =
    let told = met_within open_all ds proper m (x ++ z) first report run in
    let own = one_report ds proper m x second in
    let some = met_within open_all ds proper m x second own.report own.is in
    let here : TellsWithin ds m x (record report { met = None }) = told_front ds m x z (record report { met = None }) done le told.0 in
    (own.report.met, within_met open_all ds proper m x second own.report.met (record report { met = None }) here some.1)
