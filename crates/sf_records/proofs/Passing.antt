-- Records after which the loop goes on.
use Rattle.std.proofs.Common.{◌≡◌, ℕ, ◌+◌, Bool, true, false, cond, ◌&&◌, nat_eq, List, [], ◌∷◌, ◌++◌, drop, Option, Some, None, ◌⊎◌, inl}
use Rattle.std.proofs.Common.{inr}
use Rattle.std.proofs.Common.{refl, sym, ap, ◌∙◌, arith, true≢false}
use Rattle.std.specs.Prelude.{IsSome}
use Rattle.sf_format.specs.declared.directive.Directive.{Directive}
use Rattle.sf_format.specs.Proper.{AreProper, has_optional}
use Rattle.sf_run.specs.outcome.Ending.{Ending}
use Rattle.sf_run.specs.outcome.Ending.TheVariants.{End, Fault}
use Rattle.sf_run.specs.outcome.Status.{Status}
use Rattle.sf_run.specs.outcome.Status.TheVariants.{Done, InputFailure, MatchingFailure, OutOfRange, TooLong, NoMemory}
use Rattle.sf_run.specs.Runs.{RunReport}
use Rattle.sf_run.specs.Limits.{RunWithin, RunTold, RunRefused}
use Rattle.sf_run.specs.Residual.{nothing_yet}
use Rattle.sf_run.specs.Stopping.{is_memory_status}
use Rattle.sf_run.proofs.Refusals.{run_fine}
use Rattle.sf_run.proofs.Told.{report_only}
use Rattle.sf_read.specs.Scan.{is_fault}
use Rattle.sf_records.specs.declared.turn.Turn.{Turn}
use Rattle.sf_records.specs.declared.turn.Turn.TheVariants.{Goes, Ends, Cut, Failed, Stalled, Unfit, RanOut}
use Rattle.sf_records.specs.Turns.{turn_by, turn_of, fit_turn, writes}
use Rattle.sf_records.specs.Works.{Work, turn_in}
use Rattle.sf_records.specs.Records.{Passed, uses}

-- ---- turns

abbrev pub is_goes : Turn → Bool
is_goes Goes = true
is_goes _ = false

pub other : {A : Type 0} {turn : Turn} → is_goes turn ≡ false → turn ≡ Goes → A
other not_goes goes = absurd (true≢false (sym (ap is_goes goes) ∙ not_goes))

pub goes_or_not : (turn : Turn) → (turn ≡ Goes) ⊎ (turn ≡ Goes → ⊥)
goes_or_not Goes = inl refl
goes_or_not Ends = inr (λ e. other refl e)
goes_or_not (Cut written) = inr (λ e. other refl e)
goes_or_not Failed = inr (λ e. other refl e)
goes_or_not Stalled = inr (λ e. other refl e)
goes_or_not Unfit = inr (λ e. other refl e)
goes_or_not RanOut = inr (λ e. other refl e)

-- memory was refused
abbrev pub is_ran_out : Turn → Bool
is_ran_out RanOut = true
is_ran_out _ = false

of_two : (test : Turn → Bool) (b : Bool) (x y : Turn) → test x ≡ false → test y ≡ false → test (cond b x y) ≡ false
of_two test true x y p q = p
of_two test false x y p q = q

-- just where memory was refused, the turn says so
pub ran_out_by : (optional : Bool) (status : Status) (met : Option Ending) (used converted : ℕ)
    → is_ran_out (turn_by optional status met used converted) ≡ is_memory_status status
ran_out_by optional NoMemory None used converted = refl
ran_out_by optional NoMemory (Some End) used converted = refl
ran_out_by optional NoMemory (Some Fault) used converted = refl
ran_out_by optional Done None used converted = of_two is_ran_out (nat_eq used 0) Stalled Goes refl refl
ran_out_by optional Done (Some End) used converted =
    of_two is_ran_out (optional && nat_eq converted 0) Ends _ refl (of_two is_ran_out (nat_eq used 0) Stalled Goes refl refl)
ran_out_by optional Done (Some Fault) used converted = refl
ran_out_by optional InputFailure None used converted = refl
ran_out_by optional InputFailure (Some End) used converted = of_two is_ran_out (nat_eq converted 0) Ends Failed refl refl
ran_out_by optional InputFailure (Some Fault) used converted = refl
ran_out_by optional MatchingFailure None used converted = refl
ran_out_by optional MatchingFailure (Some End) used converted = refl
ran_out_by optional MatchingFailure (Some Fault) used converted = refl
ran_out_by optional OutOfRange None used converted = refl
ran_out_by optional OutOfRange (Some End) used converted = refl
ran_out_by optional OutOfRange (Some Fault) used converted = refl
ran_out_by optional TooLong None used converted = refl
ran_out_by optional TooLong (Some End) used converted = refl
ran_out_by optional TooLong (Some Fault) used converted = refl

-- whether a record fits changes nothing of that
fit_ran_out : (fits : Bool) (turn : Turn) → is_ran_out (fit_turn fits turn) ≡ is_ran_out turn
fit_ran_out true Goes = refl
fit_ran_out false Goes = refl
fit_ran_out fits Ends = refl
fit_ran_out true (Cut true) = refl
fit_ran_out false (Cut true) = refl
fit_ran_out fits (Cut false) = refl
fit_ran_out fits Failed = refl
fit_ran_out fits Stalled = refl
fit_ran_out true Unfit = refl
fit_ran_out false Unfit = refl
fit_ran_out fits RanOut = refl

pub not_ran_out : (w : Work) (ds : List Directive) (r : RunReport) (turn : Turn) → turn_in w ds r ≡ turn → is_ran_out turn ≡ false
    → is_memory_status r.status ≡ false
not_ran_out w ds r turn is fine =
    sym (ran_out_by (has_optional ds) r.status r.met r.used r.converted)
    ∙ sym (fit_ran_out (w.fits r) (turn_of (has_optional ds) r)) ∙ ap is_ran_out is ∙ fine

pub ran_out_status : (w : Work) (ds : List Directive) (r : RunReport) → turn_in w ds r ≡ RanOut → is_memory_status r.status ≡ true
ran_out_status w ds r is =
    sym (ran_out_by (has_optional ds) r.status r.met r.used r.converted)
    ∙ sym (fit_ran_out (w.fits r) (turn_of (has_optional ds) r)) ∙ ap is_ran_out is

-- no run by the definitions ends for want of memory
pub within_fine : (ds : List Directive) → AreProper ds → (m : ℕ) (x : List ℕ) (ending : Ending) (r : RunReport)
    → RunWithin ds m x ending r → is_memory_status r.status ≡ false
within_fine ds proper m x ending r ran =
    ap (λ (q : RunReport). is_memory_status q.status) (report_only ds proper m x ending r ran) ∙ run_fine (Some m) ds 1 nothing_yet x

-- a report that tells of a refusal is that of a run for which a storing was refused
pub told_refused : (ds : List Directive) → AreProper ds → (m : ℕ) (x : List ℕ) (ending : Ending) (r : RunReport)
    → RunTold ds m x ending r → is_memory_status r.status ≡ true → RunRefused ds m x r
told_refused ds proper m x ending r (inl ran) out = absurd (true≢false (sym out ∙ within_fine ds proper m x ending r ran))
told_refused ds proper m x ending r (inr refused) out = refused

-- where a sum would leave no refusal, and there was one, there is no sum
pub unbounded_by : (sum : Option ℕ) (refused : Bool) → (IsSome sum → refused ≡ false) → refused ≡ true → sum ≡ None
unbounded_by None refused fine out = refl
unbounded_by (Some n) refused fine out = absurd (true≢false (sym out ∙ fine refl))

pub written_is_no_memory : (turn : Turn) → writes turn ≡ true → is_ran_out turn ≡ false
written_is_no_memory Goes due = refl
written_is_no_memory (Cut written) due = refl
written_is_no_memory Ends due = refl
written_is_no_memory Failed due = refl
written_is_no_memory Stalled due = refl
written_is_no_memory Unfit due = refl
written_is_no_memory RanOut due = absurd (true≢false (sym due))

-- where the loop goes on, no source has failed
goes_by : (optional : Bool) (status : Status) (met : Option Ending) (used converted : ℕ)
    → turn_by optional status met used converted ≡ Goes → is_fault met ≡ false
goes_by optional status None used converted e = refl
goes_by optional status (Some End) used converted e = refl
goes_by optional Done (Some Fault) used converted e = other refl e
goes_by optional InputFailure (Some Fault) used converted e = other refl e
goes_by optional MatchingFailure (Some Fault) used converted e = other refl e
goes_by optional OutOfRange (Some Fault) used converted e = other refl e
goes_by optional TooLong (Some Fault) used converted e = other refl e
goes_by optional NoMemory (Some Fault) used converted e = other refl e

-- where the loop goes on, the record fits
pub fit_goes : (fits : Bool) (turn : Turn) → fit_turn fits turn ≡ Goes → (turn ≡ Goes) × (fits ≡ true)
fit_goes true Goes e = (refl, refl)
fit_goes false Goes e = other refl e
fit_goes fits Ends e = other refl e
fit_goes true (Cut true) e = other refl e
fit_goes false (Cut true) e = other refl e
fit_goes fits (Cut false) e = other refl e
fit_goes fits Failed e = other refl e
fit_goes fits Stalled e = other refl e
fit_goes true Unfit e = other refl e
fit_goes false Unfit e = other refl e
fit_goes fits RanOut e = other refl e

pub goes_is_no_fault : (w : Work) (ds : List Directive) (r : RunReport) → turn_in w ds r ≡ Goes → is_fault r.met ≡ false
goes_is_no_fault w ds r e =
    goes_by (has_optional ds) r.status r.met r.used r.converted (fit_goes (w.fits r) (turn_of (has_optional ds) r) e).0

-- ---- records

pub passed_append : (w : Work) (ds : List Directive) (m : ℕ) (ending : Ending) (x y z : List ℕ) (front rest : List RunReport)
    → Passed w ds m x ending front y → Passed w ds m y ending rest z → Passed w ds m x ending (front ++ rest) z
passed_append w ds m ending x y z [] rest p q = rw p q
passed_append w ds m ending x y z (r ∷ rs) rest p q = (p.0, p.1, passed_append w ds m ending (drop r.used x) y z rs rest p.2 q)

pub passed_more : (w : Work) (ds : List Directive) (m : ℕ) (ending : Ending) (x y : List ℕ) (front : List RunReport) (r : RunReport)
    → Passed w ds m x ending front y → RunWithin ds m y ending r → turn_in w ds r ≡ Goes
    → Passed w ds m x ending (front ++ r ∷ []) (drop r.used y)
passed_more w ds m ending x y front r p ran goes = passed_append w ds m ending x y (drop r.used y) front (r ∷ []) p (ran, goes, refl)

pub uses_append : (front rest : List RunReport) → uses (front ++ rest) ≡ uses front + uses rest
uses_append [] rest = omega arith
uses_append (r ∷ rs) rest = omega (arith, uses_append rs rest)
