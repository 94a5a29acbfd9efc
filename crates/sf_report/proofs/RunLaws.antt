-- The directives make exactly one list of steps.
use Rattle.std.proofs.Common.{◌≡◌, ℕ, zero, suc, ◌+◌, List, [], ◌∷◌, ◌++◌, length, drop, Some, refl, sym, ap, ap₂, ◌∙◌}
use Rattle.std.specs.Prelude.{slice_get}
use Rattle.sf_format.specs.declared.directive.Directive.{Directive}
use Rattle.sf_format.specs.Proper.{AreProper}
use Rattle.sf_report.specs.Steps.{StepEnd, Passes, Stores, Misses, Fails}
use Rattle.sf_report.specs.Runs.{Ran, GoesOn, Steps, StepsPast, over}
use Rattle.sf_report.specs.Computed.{step_of, go_on, ran_of, ran_past}
use Rattle.sf_report.proofs.StepLaws.{step_is, step_only}

goes_is : (end : StepEnd) (P : List Ran → Type 0) (rest : List Ran) → P rest → GoesOn end (P (go_on end rest)) (go_on end rest)
goes_is Passes P rest h = h
goes_is (Stores slot v) P rest h = h
goes_is Misses P rest h = h
goes_is (Fails status) P rest h = refl

past_is : (m : ℕ) (ds : List Directive) → AreProper ds → (x : List ℕ) (n : ℕ) → StepsPast m ds x n (ran_past m ds x n)
past_is m [] proper x n = tt
past_is zero (d ∷ ds) proper x n =
    let r = step_of d x n in
    let k = over d r.1 in (
      refl,
      step_is d proper.0 x n,
      goes_is r.1 (StepsPast k ds (drop r.0 x) (n + r.0)) (ran_past k ds (drop r.0 x) (n + r.0))
          (past_is k ds proper.1 (drop r.0 x) (n + r.0)),
    )
past_is (suc m) (d ∷ ds) proper x n = (refl, past_is m ds proper.1 x n)

pub steps_is : (ds : List Directive) → AreProper ds → (x : List ℕ) (n : ℕ) → Steps ds x n (ran_of ds x n)
steps_is ds proper x n = past_is 0 ds proper x n

goes_only : (end : StepEnd) (P : List Ran → Type 0) (rest ran : List Ran) → ((other : List Ran) → P other → other ≡ rest)
    → GoesOn end (P ran) ran → ran ≡ go_on end rest
goes_only Passes P rest ran only h = only ran h
goes_only (Stores slot v) P rest ran only h = only ran h
goes_only Misses P rest ran only h = only ran h
goes_only (Fails status) P rest ran only h = h

past_only : (m : ℕ) (ds : List Directive) → AreProper ds → (x : List ℕ) (n : ℕ) (ran : List Ran) → StepsPast m ds x n ran
    → ran ≡ ran_past m ds x n
past_only m [] proper x n [] h = refl
past_only m [] proper x n (r ∷ ran) h = absurd h
past_only m (d ∷ ds) proper x n [] h = absurd h
past_only zero (d ∷ ds) proper x n (r ∷ ran) h =
    let step = step_only d proper.0 x n r.bytes r.end h.1 in
    let k = over d r.end in
    let rest = goes_only r.end (StepsPast k ds (drop r.bytes x) (n + r.bytes)) (ran_past k ds (drop r.bytes x) (n + r.bytes)) ran
    (λ other s. past_only k ds proper.1 (drop r.bytes x) (n + r.bytes) other s) h.2 in
    ap₂ (λ directive more. record { directive = directive; bytes = r.bytes; end = r.end } ∷ more) h.0 rest
    ∙ ap₂ (λ bytes end. record { directive = d; bytes = bytes; end = end }
    ∷ go_on end (ran_past (over d end) ds (drop bytes x) (n + bytes))) step.0 step.1
past_only (suc m) (d ∷ ds) proper x n (r ∷ ran) h =
    ap₂ (λ (s : Ran) (more : List Ran). s ∷ more) h.0 (past_only m ds proper.1 x n ran h.1)

pub steps_only : (ds : List Directive) → AreProper ds → (x : List ℕ) (n : ℕ) (ran : List Ran) → Steps ds x n ran → ran ≡ ran_of ds x n
steps_only ds proper x n ran h = past_only 0 ds proper x n ran h

-- ---- the directive that made a step

goes : (end : StepEnd) (rest : Type 0) (before : List Ran) (cut : Ran) (more : List Ran) → GoesOn end rest (before ++ cut ∷ more) → rest
goes Passes rest before cut more h = h
goes (Stores slot v) rest before cut more h = h
goes Misses rest before cut more h = h
goes (Fails status) rest [] cut more h = cc
goes (Fails status) rest (r ∷ before) cut more h = cc

past_at : (m : ℕ) (ds : List Directive) (x : List ℕ) (n : ℕ) (before : List Ran) (cut : Ran) (more : List Ran)
    → StepsPast m ds x n (before ++ cut ∷ more) → slice_get ds (length before) ≡ Some cut.directive
past_at m [] x n [] cut more h = absurd h
past_at m [] x n (r ∷ before) cut more h = absurd h
past_at zero (d ∷ ds) x n [] cut more h = ap (λ (e : Directive). Some e) (sym h.0)
past_at (suc m) (d ∷ ds) x n [] cut more h = ap (λ (s : Ran). Some s.directive) (sym h.0)
past_at zero (d ∷ ds) x n (r ∷ before) cut more h = past_at (over d r.end) ds (drop r.bytes x) (n + r.bytes) before cut more
    (goes r.end (StepsPast (over d r.end) ds (drop r.bytes x) (n + r.bytes) (before ++ cut ∷ more)) before cut more h.2)
past_at (suc m) (d ∷ ds) x n (r ∷ before) cut more h = past_at m ds x n before cut more h.1

pub ran_at : (ds : List Directive) (x : List ℕ) (n : ℕ) (before : List Ran) (cut : Ran) (more : List Ran)
    → Steps ds x n (before ++ cut ∷ more) → slice_get ds (length before) ≡ Some cut.directive
ran_at ds x n before cut more h = past_at 0 ds x n before cut more h
