-- The running totals tell what the list of steps tells.
use Rattle.std.proofs.lemmas.Grind.{common_steps}
use Rattle.std.proofs.Common.{◌≡◌, ℕ, zero, suc, ◌+◌, ◌<◌, ◌≤◌, ◌⊎◌, inl, inr, Bool, true, false, cond, ◌&&◌, nat_eq, nat_le, List, [], ◌∷◌}
use Rattle.std.proofs.Common.{◌++◌, length, drop, Option, Some, None, is_some, refl, sym, ap, ap₂, ◌∙◌, subst, arith, append-nil, zero-add}
use Rattle.std.proofs.Common.{add-zero}
use Rattle.std.specs.Prelude.{SomeIff}
use Rattle.std.specs.List.{list_any}
use Rattle.std.proofs.lemmas.Bool.{cases_lt, cond-true, cond-false, lt-ltb, le-ltb}
use Rattle.std.proofs.lemmas.List.Sums.{sum_by-cons}
use Rattle.sf_base.specs.Data.{Assigned}
use Rattle.sf_format.specs.declared.directive.Directive.{Directive}
use Rattle.sf_format.specs.Proper.{AreProper}
use Rattle.sf_report.specs.declared.outcome.Ending.{Ending}
use Rattle.sf_report.specs.declared.outcome.Status.{Status}
use Rattle.sf_report.specs.declared.outcome.Status.TheVariants.{Done, TooLong}
use Rattle.sf_report.specs.Steps.{StepEnd, Fails}
use Rattle.sf_report.specs.Runs.{Ran, Steps, left_out, over, bytes_used, failure_of, status_of, values_stored, count_assigned}
use Rattle.sf_report.specs.Runs.{count_converted, RunReport}
use Rattle.sf_report.specs.Runs.{report_of, Uses, IsOpen}
use Rattle.sf_report.specs.Limits.{cut_report, RunWithin, TellsWithin}
use Rattle.sf_item.proofs.Deciding.{Tests, tests_both, tests_most}
use Rattle.sf_report.specs.Laws.{EachHasOneReport}
use Rattle.sf_report.specs.Machine.{some_below}
use Rattle.sf_report.specs.Residual.{Tally, nothing_yet, with_used, counted, out_of, by_end, then_on, run_of, run_past}
use Rattle.sf_report.specs.Computed.{step_of, part_of, go_on, ran_of, ran_past}
use Rattle.sf_report.proofs.Ones.{one_made}
use Rattle.sf_report.proofs.Openness.{counted-used, within_limit}
use Rattle.sf_report.proofs.RunLaws.{steps_is, steps_only}

-- ---- totals of a list of steps

abbrev ran_one : Directive → ℕ → StepEnd → Ran
ran_one d k end = record { directive = d; bytes = k; end = end }

used-cons : (r : Ran) (ran : List Ran) → bytes_used (r ∷ ran) ≡ r.bytes + bytes_used ran
used-cons r ran = sum_by-cons (λ (s : Ran). s.bytes) r ran

abbrev tally : ℕ → ℕ → ℕ → List Assigned → Tally
tally u a c v = record { used = u; assigned = a; converted = c; values = v }

same_tally : {t a c : ℕ} {v : List Assigned} (u b d : ℕ) (w : List Assigned) → t ≡ u → a ≡ b → c ≡ d → v ≡ w → tally t a c v ≡ tally u b d w
same_tally u b d w p q r s = grind arith

-- the totals t, and those of the steps
abbrev sums : Tally → List Ran → Tally
sums t ran = tally (t.used + bytes_used ran) (t.assigned + count_assigned ran) (t.converted + count_converted ran)
    (t.values ++ values_stored ran)

count_more : (v : Bool) (n k l : ℕ) → l ≡ cond (v && true) 1 0 + k → cond v (n + 1) n + k ≡ n + l
count_more v n k l e = grind arith

-- the run goes on after it
abbrev past : StepEnd → Bool
past (Fails status) = false
past _ = true

-- a step that passes
sums_step : (d : Directive) (end : StepEnd) (k : ℕ) (t : Tally) (ran : List Ran) → past end ≡ true
    → sums (counted d end (with_used (t.used + k) t)) ran ≡ sums t (ran_one d k end ∷ ran)
sums_step d end k t ran h = grind (arith, common_steps)

sums_none : (t : Tally) → t ≡ sums t []
sums_none t = same_tally _ _ _ _ (sym (add-zero t.used)) (sym (add-zero t.assigned)) (sym (add-zero t.converted))
    (sym (append-nil t.values))

-- ---- reports of a list of steps, where a directives passed before with the totals t

abbrev place_from : ℕ → List Ran → ℕ
place_from a ran = cond (list_any (λ r. is_some (failure_of r.end)) ran) (a + length ran) 0

abbrev told_from : ℕ → Tally → List Ran → RunReport
told_from a t ran = out_of (status_of ran) (place_from a ran) (sums t ran)

abbrev cut_from : ℕ → Tally → List Ran → ℕ → RunReport
cut_from a t before m = out_of TooLong (a + (length before + 1)) (with_used m (sums t before))

same_out : (status : Status) (i j : ℕ) (t u : Tally) → i ≡ j → t ≡ u → out_of status i t ≡ out_of status j u
same_out status i j t u p q = ap₂ (out_of status) p q

cut_step : (d : Directive) (end : StepEnd) (k a m : ℕ) (t : Tally) (before : List Ran) → past end ≡ true
    → cut_from (a + 1) (counted d end (with_used (t.used + k) t)) before m ≡ cut_from a t (ran_one d k end ∷ before) m
cut_step d end k a m t before h = grind (arith, sums_step)

-- ---- by the first directive's end

-- the totals after the first directive
abbrev next_tally : Directive → List ℕ → Tally → Tally
next_tally d x t = counted d (step_of d x t.used).1 (with_used (t.used + (step_of d x t.used).0) t)

-- the steps after the first
abbrev later : Directive → List Directive → List ℕ → ℕ → List Ran
later d ds x n = ran_past (over d (step_of d x n).1) ds (drop (step_of d x n).0 x) (n + (step_of d x n).0)

first_step : (m : Option ℕ) (d : Directive) (ds : List Directive) (at : ℕ) (t : Tally) (x : List ℕ)
    → run_of m (d ∷ ds) at t x ≡ then_on m d at t (part_of t.used x (step_of d x t.used)) (run_past m ds (at + 1))
first_step m d ds at t x = ap (λ p. then_on m d at t p (run_past m ds (at + 1))) (one_made d x t.used)

-- the rest of the run by the first directive's end
abbrev by_first : Option ℕ → Directive → List Directive → ℕ → Tally → List ℕ → RunReport
by_first m d ds at t x = by_end (step_of d x t.used).1
    (run_past m ds (at + 1) (over d (step_of d x t.used).1) (next_tally d x t) (drop (step_of d x t.used).0 x))
    (λ status. out_of status at (with_used (t.used + (step_of d x t.used).0) t))

limited_step : (m : ℕ) (d : Directive) (ds : List Directive) (at : ℕ) (t : Tally) (x : List ℕ) → t.used + (step_of d x t.used).0 ≤ m
    → run_of (Some m) (d ∷ ds) at t x ≡ by_first (Some m) d ds at t x
limited_step m d ds at t x fits = first_step (Some m) d ds at t x ∙ cond-false _ _ _ (le-ltb m (t.used + (step_of d x t.used).0) fits)

limited_over : (m : ℕ) (d : Directive) (ds : List Directive) (at : ℕ) (t : Tally) (x : List ℕ) → m < t.used + (step_of d x t.used).0
    → run_of (Some m) (d ∷ ds) at t x ≡ out_of TooLong at (with_used m t)
limited_over m d ds at t x over = first_step (Some m) d ds at t x ∙ cond-true _ _ _ (lt-ltb m (t.used + (step_of d x t.used).0) over)

-- ---- without a limit

told_first : (d : Directive) (end : StepEnd) (k a : ℕ) (t : Tally) (next : RunReport) (rest : List Ran)
    → next ≡ told_from (a + 1) (counted d end (with_used (t.used + k) t)) rest
    → by_end end next (λ status. out_of status (a + 1) (with_used (t.used + k) t)) ≡ told_from a t (ran_one d k end ∷ go_on end rest)
told_first d end k a t next rest h = grind (arith, common_steps)

-- one that is missing with another adds nothing
told_left_out : (d : Directive) (a : ℕ) (t : Tally) (ran : List Ran) → told_from (a + 1) t ran ≡ told_from a t (left_out d ∷ ran)
told_left_out d a t ran = grind (arith, common_steps)

run_told_from : (ds : List Directive) (a m : ℕ) (t : Tally) (x : List ℕ)
    → run_past None ds (a + 1) m t x ≡ told_from a t (ran_past m ds x t.used)
run_told_from [] a m t x = ap (out_of Done 0) (sums_none t)
run_told_from (d ∷ ds) a zero t x =
    let k = (step_of d x t.used).0 in
    let j = over d (step_of d x t.used).1 in
    first_step None d ds (a + 1) t x
    ∙ told_first d (step_of d x t.used).1 k a t _ (later d ds x t.used) (run_told_from ds (a + 1) j (next_tally d x t) (drop k x)
    ∙ ap (λ n. told_from (a + 1) (next_tally d x t) (ran_past j ds (drop k x) n))
    (counted-used d (step_of d x t.used).1 (with_used (t.used + k) t)))
run_told_from (d ∷ ds) a (suc m) t x = run_told_from ds (a + 1) m t x ∙ told_left_out d a t (ran_past m ds x t.used)

sums_nothing : (ran : List Ran)
    → sums nothing_yet ran ≡ tally (bytes_used ran) (count_assigned ran) (count_converted ran) (values_stored ran)
sums_nothing ran = same_tally _ _ _ _ (zero-add (bytes_used ran)) (zero-add (count_assigned ran)) (zero-add (count_converted ran)) refl

told_nothing : (ran : List Ran) → told_from 0 nothing_yet ran ≡ report_of ran None
told_nothing ran = grind arith

cut_nothing : (before : List Ran) (m : ℕ) → cut_from 0 nothing_yet before m ≡ cut_report TooLong before m
cut_nothing before m = same_out TooLong _ _ _ _ (zero-add (length before + 1)) (ap (with_used m) (sums_nothing before))

pub run_is_told : (ds : List Directive) (x : List ℕ) → run_of None ds 1 nothing_yet x ≡ report_of (ran_of ds x 0) None
run_is_told ds x = run_told_from ds 0 0 nothing_yet x ∙ told_nothing (ran_of ds x 0)

pub run_told : (ds : List Directive) → AreProper ds → (x : List ℕ) (ran : List Ran) → Steps ds x 0 ran
    → run_of None ds 1 nothing_yet x ≡ report_of ran None
run_told ds proper x ran h = run_is_told ds x ∙ ap (λ (r : List Ran). report_of r None) (sym (steps_only ds proper x 0 ran h))

pub uses_is : (ds : List Directive) → AreProper ds → (x : List ℕ) (k : ℕ) → Uses ds x k → (run_of None ds 1 nothing_yet x).used ≡ k
uses_is ds proper x k h = ap (λ (r : RunReport). r.used) (run_told ds proper x h.0 h.1) ∙ h.2

pub uses_from : (ds : List Directive) → AreProper ds → (x : List ℕ) (k : ℕ) → (run_of None ds 1 nothing_yet x).used ≡ k → Uses ds x k
uses_from ds proper x k e = (ran_of ds x 0, steps_is ds proper x 0, sym (ap (λ (r : RunReport). r.used) (run_is_told ds x)) ∙ e)

-- ---- under a limit

cut_first : (d : Directive) (end : StepEnd) (k a m : ℕ) (t : Tally) (before : List Ran) (next : RunReport) → past end ≡ true
    → next ≡ cut_from (a + 1) (counted d end (with_used (t.used + k) t)) before m
    → by_end end next (λ status. out_of status (a + 1) (with_used (t.used + k) t)) ≡ cut_from a t (ran_one d k end ∷ before) m
cut_first d end k a m t before next ok h = grind (arith, (cut_step d end k a m t before ok))

gone_on : (end : StepEnd) (l before : List Ran) (cut : Ran) (rest : List Ran) → go_on end l ≡ before ++ cut ∷ rest
    → (past end ≡ true) × (l ≡ before ++ cut ∷ rest)
gone_on end l [] cut rest e = grind arith
gone_on end l (r ∷ before) cut rest e = grind arith

cut_left_out : (d : Directive) (a m : ℕ) (t : Tally) (before : List Ran)
    → cut_from (a + 1) t before m ≡ cut_from a t (left_out d ∷ before) m
cut_left_out d a m t before = grind (arith, common_steps)

-- a run past the limit is cut off in the step in which it passes it
cut_is : (ds : List Directive) (m a j : ℕ) (t : Tally) (x : List ℕ) (before : List Ran) (cut : Ran) (rest : List Ran)
    → ran_past j ds x t.used ≡ before ++ cut ∷ rest → t.used + bytes_used before ≤ m → m < t.used + bytes_used before + cut.bytes
    → run_past (Some m) ds (a + 1) j t x ≡ cut_from a t before m
cut_is [] m a j t x [] cut rest parts low high = cc
cut_is [] m a j t x (r ∷ before) cut rest parts low high = cc
cut_is (d ∷ ds) m a zero t x [] cut rest parts low high = grind (arith, limited_over, sums_none)
cut_is (d ∷ ds) m a (suc j) t x [] cut rest parts low high =
    let none : left_out d ≡ cut = cc in
    let size : cut.bytes ≡ 0 = ap (λ (s : Ran). s.bytes) (sym none) in
    absurd (omega (arith, low, high, size))
cut_is (d ∷ ds) m a (suc j) t x (r ∷ before) cut rest parts low high =
    let same : left_out d ≡ r = cc in
    let size : r.bytes ≡ 0 = ap (λ (s : Ran). s.bytes) (sym same) in
    let tail : ran_past j ds x t.used ≡ before ++ cut ∷ rest = cc in
    let all = used-cons r before in
    cut_is ds m (a + 1) j t x before cut rest tail (omega (arith, low, size, all)) (omega (arith, high, size, all))
    ∙ cut_left_out d a m t before ∙ ap (λ (s : Ran). cut_from a t (s ∷ before) m) same
cut_is (d ∷ ds) m a zero t x (r ∷ before) cut rest parts low high =
    let k : ℕ = (step_of d x t.used).0 in
    let end : StepEnd = (step_of d x t.used).1 in
    let same : ran_one d k end ≡ r = cc in
    let size : k ≡ r.bytes = cc in
    let tail : go_on end (later d ds x t.used) ≡ before ++ cut ∷ rest = cc in
    let goes = gone_on end (later d ds x t.used) before cut rest tail in
    let all = used-cons r before in
    let now = counted-used d end (with_used (t.used + k) t) in
    limited_step m d ds (a + 1) t x (omega (arith, low, size, all))
    ∙ cut_first d end k a m t before _ goes.0
    (cut_is ds m (a + 1) (over d end) (next_tally d x t) (drop k x) before cut rest (rw now goes.1) (omega (arith, low, size, all, now))
    (omega (arith, high, size, all, now)))
    ∙ ap (λ (s : Ran). cut_from a t (s ∷ before) m) same

-- the steps up to the one in which byte m + 1 falls
record Split (ran : List Ran) (n m : ℕ) : Type 0 where
  before : List Ran
  cut : Ran
  rest : List Ran
  parts : ran ≡ before ++ cut ∷ rest
  low : n + bytes_used before ≤ m
  high : m < n + bytes_used before + cut.bytes

split : (ran : List Ran) (n m : ℕ) → n ≤ m → m < n + bytes_used ran → Split ran n m
split [] n m low high = absurd (omega (arith, low, high))
split (r ∷ ran) n m low high = by_case (cases_lt m (n + r.bytes)) (split ran (n + r.bytes) m)
  where
    by_case : (m < n + r.bytes) ⊎ (n + r.bytes ≤ m) → (n + r.bytes ≤ m → m < n + r.bytes + bytes_used ran → Split ran (n + r.bytes) m)
        → Split (r ∷ ran) n m
    by_case (inl over) more = record { before = []; cut = r; rest = ran; parts = refl; low = omega arith; high = omega arith }
    by_case (inr fits) more =
        let all = used-cons r ran in
        let later = more fits (omega arith) in
        let total = used-cons r later.before in
        let later_low = later.low in
        let later_high = later.high in
        record {
          before = r ∷ later.before;
          cut = later.cut;
          rest = later.rest;
          parts = ap (λ l. r ∷ l) later.parts;
          low = omega (arith, total, later_low);
          high = omega (arith, total, later_high);
        }

pub told_exists : (ds : List Directive) → AreProper ds → (m : ℕ) (x : List ℕ) → TellsWithin ds m x (run_of (Some m) ds 1 nothing_yet x)
told_exists ds proper m x = by_case (cases_lt m (bytes_used (ran_of ds x 0)))
  where
    by_case : (m < bytes_used (ran_of ds x 0)) ⊎ (bytes_used (ran_of ds x 0) ≤ m) → TellsWithin ds m x (run_of (Some m) ds 1 nothing_yet x)
    by_case (inl over) =
        let s = split (ran_of ds x 0) 0 m (omega arith) (omega (arith, over)) in
        let low = s.low in
        let high = s.high in
        inr (
          s.before,
          record {
            cut = s.cut;
            rest = s.rest;
            steps = subst (Steps ds x 0) s.parts (steps_is ds proper x 0);
            low = omega (arith, low);
            high = omega (arith, high);
          },
          cut_is ds m 0 0 nothing_yet x s.before s.cut s.rest s.parts low high ∙ cut_nothing s.before m,
        )
    by_case (inr fits) = inl (
      ran_of ds x 0,
      steps_is ds proper x 0,
      fits,
      within_limit m ds 1 nothing_yet x (rw run_is_told fits) ∙ run_is_told ds x,
    )

pub told_is : (ds : List Directive) → AreProper ds → (m : ℕ) (x : List ℕ) (r : RunReport) → TellsWithin ds m x r
    → r ≡ run_of (Some m) ds 1 nothing_yet x
told_is ds proper m x r (inl w) = let told = run_told ds proper x w.0 w.1 in
    w.3 ∙ sym told ∙ sym (within_limit m ds 1 nothing_yet x (rw told w.2))
told_is ds proper m x r (inr w) =
    let low : bytes_used w.0 ≤ m = w.1.low in
    let high : m < bytes_used w.0 + w.1.cut.bytes = w.1.high in
    w.2 ∙ sym (cut_nothing w.0 m)
    ∙ sym (cut_is ds m 0 0 nothing_yet x w.0 w.1.cut w.1.rest (sym (steps_only ds proper x 0 _ w.1.steps)) (omega (arith, low))
    (omega (arith, high)))

-- ---- what the run met

-- the bytes that the run uses without a limit
abbrev pub uses : List Directive → List ℕ → ℕ
uses ds x = (run_of None ds 1 nothing_yet x).used

abbrev with_met : RunReport → Option Ending → RunReport
with_met r met = record r { met = met }

told_met : (ds : List Directive) → AreProper ds → (m : ℕ) (x : List ℕ) (ending : Ending) (met : Option Ending) (r : RunReport)
    → TellsWithin ds m x r → SomeIff met (IsOpen ds x × (uses ds x ≤ m)) ending → RunWithin ds m x ending (with_met r met)
told_met ds proper m x ending met r h2 some = grind (arith, run_told, common_steps)

met_told : (ds : List Directive) → AreProper ds → (m : ℕ) (x : List ℕ) (ending : Ending) (r : RunReport)
    → RunWithin ds m x ending r → TellsWithin ds m x (with_met r None) × SomeIff r.met (IsOpen ds x × (uses ds x ≤ m)) ending
met_told ds proper m x ending r h2 = grind (arith, run_told, common_steps)

-- an open input is used whole
abbrev pub UsesAll : Type 0
UsesAll = (ds : List Directive) → AreProper ds → (x : List ℕ) → IsOpen ds x → (run_of None ds 1 nothing_yet x).used ≡ length x

module _ (open_all : UsesAll) (ds : List Directive) (proper : AreProper ds) (m : ℕ) (x : List ℕ) (ending : Ending) where
  pub within_met : (met : Option Ending) (r : RunReport) → TellsWithin ds m x r → SomeIff met (IsOpen ds x × (length x ≤ m)) ending
      → RunWithin ds m x ending (record r { met = met })
  within_met met r h some =
      let same : SomeIff met (IsOpen ds x × (uses ds x ≤ m)) ending = grind (arith, (open_all ds proper x)) in
      told_met ds proper m x ending met r h same

  pub met_within : (r : RunReport) → RunWithin ds m x ending r
      → TellsWithin ds m x (record r { met = None }) × SomeIff r.met (IsOpen ds x × (length x ≤ m)) ending
  met_within r h = grind (arith, met_told, (open_all ds proper x))

-- ---- whether an input is open

abbrev IsBelow : (ℕ → Type 0) → ℕ → Type 0
IsBelow P n = (b : ℕ) × (b < n) × P b

tests_below : (n : ℕ) (P : ℕ → Type 0) (test : ℕ → Bool) → ((b : ℕ) → Tests (test b) (P b)) → Tests (some_below n test) (IsBelow P n)
tests_below zero P test tests = grind arith
tests_below (suc n) P test tests = grind (arith, tests_below n P test tests)

unfoldable pub is_open : List Directive → List ℕ → Bool
is_open ds x = some_below 256 (λ b. nat_eq (run_of None ds 1 nothing_yet (x ++ b ∷ [])).used (length x + 1))

tests_uses : (ds : List Directive) → AreProper ds → (x : List ℕ) (k : ℕ)
    → Tests (nat_eq (run_of None ds 1 nothing_yet x).used k) (Uses ds x k)
tests_uses ds proper x k = grind (arith, uses_from, run_told)

pub tests_open : (ds : List Directive) → AreProper ds → (x : List ℕ) → Tests (is_open ds x) (IsOpen ds x)
unfolding is_open
tests_open ds proper x = tests_below 256 _ _ (λ b. tests_uses ds proper (x ++ b ∷ []) (length x + 1))

-- ---- one report

met_is : {P : Type 0} {test : Bool} (ending : Ending) → Tests test P → SomeIff (cond test (Some ending) None) P ending
met_is ending tests = grind arith

met_only : {P : Type 0} (test : Bool) (met : Option Ending) (ending : Ending) → Tests test P → SomeIff met P ending
    → met ≡ cond test (Some ending) None
met_only test met ending tests h = grind arith

-- the run met the ending: its input is open, and it was not cut off
abbrev pub meets : List Directive → ℕ → List ℕ → Bool
meets ds m x = is_open ds x && nat_le (uses ds x) m

tests_meets : (ds : List Directive) → AreProper ds → (m : ℕ) (x : List ℕ) → Tests (meets ds m x) (IsOpen ds x × (uses ds x ≤ m))
tests_meets ds proper m x = tests_both (tests_open ds proper x) (tests_most (uses ds x) m)

-- the report, computed
abbrev pub report_within : List Directive → ℕ → List ℕ → Ending → RunReport
report_within ds m x ending = with_met (run_of (Some m) ds 1 nothing_yet x) (cond (meets ds m x) (Some ending) None)

pub report_is : (ds : List Directive) → AreProper ds → (m : ℕ) (x : List ℕ) (ending : Ending)
    → RunWithin ds m x ending (report_within ds m x ending)
report_is ds proper m x ending =
    told_met ds proper m x ending _ _ (told_exists ds proper m x) (met_is ending (tests_meets ds proper m x))

pub report_only : (ds : List Directive) → AreProper ds → (m : ℕ) (x : List ℕ) (ending : Ending) (other : RunReport)
    → RunWithin ds m x ending other → other ≡ report_within ds m x ending
report_only ds proper m x ending other h =
    let told = met_told ds proper m x ending other h in
    ap₂ with_met (told_is ds proper m x _ told.0) (met_only (meets ds m x) other.met ending (tests_meets ds proper m x) told.1)

pub one_report : EachHasOneReport
one_report ds proper m x ending = record {
  report = report_within ds m x ending;
  is = report_is ds proper m x ending;
  only = report_only ds proper m x ending;
}
