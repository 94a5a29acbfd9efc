-- A run that leaves a byte of a front of its input is the same on that front.
use Rattle.std.proofs.Common.{◌≡◌, ℕ, zero, suc, ◌+◌, ◌<◌, ◌≤◌, false, List, [], ◌∷◌, ◌++◌, length, Option, Some, None}
use Rattle.std.proofs.Common.{refl, sym, ap, subst, ◌∙◌, arith, append-nil, length-append}
use Rattle.sf_format.specs.declared.directive.Directive.{Directive}
use Rattle.sf_format.specs.Proper.{AreProper}
use Rattle.sf_report.specs.Laws.{EachEarlyRunStays}
use Rattle.sf_report.specs.Limits.{RunWithin, TellsWithin}
use Rattle.sf_report.specs.Machine.{Stage, Skipping, finished}
use Rattle.sf_report.specs.Residual.{Part, Tally, nothing_yet, one_from, run_of, run_past, stepped_all, then_on}
use Rattle.sf_report.specs.Runs.{IsOpen, RunReport}
use Rattle.sf_report.specs.Steps.{StepEnd}
use Rattle.sf_report.proofs.Inputs.{none_met, open_all}
use Rattle.sf_report.proofs.Joined.{one_from-all}
use Rattle.sf_report.proofs.Machines.{grows, keeps_all}
use Rattle.sf_report.proofs.Openness.{counted-used, more_left, stops_early, within_limit}
use Rattle.sf_report.proofs.Told.{met_within, told_exists, told_is, within_met}

-- ---- one directive

-- it uses what it used before, as long as the limit allows that
limited_more : (m : ℕ) (ds : List Directive) (at k : ℕ) (t : Tally) (x : List ℕ) → t.used ≤ m
    → t.used ≤ (run_past (Some m) ds at k t x).used
limited_more m [] at k t x low = omega arith
limited_more m (d ∷ ds) at zero t x low = grind (arith, grows, counted-used, limited_more m ds)
limited_more m (d ∷ ds) at (suc k) t x low = limited_more m ds (at + 1) k t x low

-- after a directive that leaves y of a front
same_after : (m : ℕ) (d : Directive) (at : ℕ) (t : Tally) (n : ℕ) (y z : List ℕ) (end : StepEnd) (k : ℕ)
    (next : ℕ → Tally → List ℕ → RunReport) → n + length y ≡ k
    → ((j : ℕ) (u : Tally) → u.used ≡ n → n ≤ m → (next j u (y ++ z)).used < n + length y → next j u (y ++ z) ≡ next j u y)
    → (then_on (Some m) d at t (record { used = n; left = y ++ z; end = end }) next).used < k
    → then_on (Some m) d at t (record { used = n; left = y ++ z; end = end }) next
    ≡ then_on (Some m) d at t (record { used = n; left = y; end = end }) next
same_after m d at t n y z end k next all on early = grind (arith, counted-used)

-- after one that takes all of a front of k bytes, a byte of it is left only where the limit is passed
cut_after : (m : ℕ) (d : Directive) (ds : List Directive) (at : ℕ) (t : Tally) (p : Part) (k : ℕ) (end : StepEnd) → k ≤ p.used
    → (then_on (Some m) d at t p (run_past (Some m) ds (at + 1))).used < k
    → then_on (Some m) d at t p (run_past (Some m) ds (at + 1))
    ≡ then_on (Some m) d at t (record { used = k; left = []; end = end }) (run_past (Some m) ds (at + 1))
cut_after m d ds at t p k end more early = grind (arith, counted-used, limited_more)

-- ---- the run

front_run : (m : ℕ) (ds : List Directive) (at k : ℕ) (t : Tally) (x z : List ℕ) → t.used ≤ m
    → (run_past (Some m) ds at k t (x ++ z)).used < t.used + length x
    → run_past (Some m) ds at k t (x ++ z) ≡ run_past (Some m) ds at k t x
front_run m [] at k t x z low early = refl
front_run m (d ∷ ds) at (suc k) t x z low early = front_run m ds (at + 1) k t x z low early
front_run m (d ∷ ds) at zero t x z low early =
    by_stage (stepped_all d Skipping x) refl (λ j u y fits. front_run m ds (at + 1) j u y z fits)
  where
    by_stage : (o : Option Stage) → stepped_all d Skipping x ≡ o
        → ((j : ℕ) (u : Tally) (y : List ℕ) → u.used ≤ m
        → (run_past (Some m) ds (at + 1) j u (y ++ z)).used < u.used + length y
        → run_past (Some m) ds (at + 1) j u (y ++ z) ≡ run_past (Some m) ds (at + 1) j u y)
        → run_of (Some m) (d ∷ ds) at t (x ++ z) ≡ run_of (Some m) (d ∷ ds) at t x
    by_stage None e on =
        let p : Part = one_from d Skipping t.used x in
        let goes : one_from d Skipping t.used (x ++ z) ≡ more_left p z = stops_early d Skipping t.used x z e in
        let step = ap (λ q. then_on (Some m) d at t q (run_past (Some m) ds (at + 1))) goes in
        let used = ap (λ (r : RunReport). r.used) step in
        step ∙ same_after m d at t p.used p.left z p.end (t.used + length x) (run_past (Some m) ds (at + 1))
        (keeps_all d Skipping t.used x)
        (λ j u same fits less. on j u p.left (omega (arith, same, fits)) (omega (arith, same, less)))
        (omega (arith, used, early))
    by_stage (Some r) e on =
        let n : ℕ = t.used + length x in
        let goes : one_from d Skipping t.used (x ++ z) ≡ one_from d r n z = one_from-all d Skipping r t.used x z e in
        let here : one_from d Skipping t.used x ≡ record { used = n; left = []; end = finished d r n false } =
        subst (λ (y : List ℕ). one_from d Skipping t.used y ≡ record { used = n; left = []; end = finished d r n false })
        (append-nil x) (one_from-all d Skipping r t.used x [] e) in
        let step = ap (λ q. then_on (Some m) d at t q (run_past (Some m) ds (at + 1))) goes in
        let used = ap (λ (v : RunReport). v.used) step in
        step ∙ cut_after m d ds at t (one_from d r n z) n (finished d r n false) (grows d r n z) (omega (arith, used, early))
        ∙ ap (λ q. then_on (Some m) d at t q (run_past (Some m) ds (at + 1))) (sym here)

-- ---- what it met

-- a run within the limit that leaves a byte of its input met no end
closed : (ds : List Directive) → AreProper ds → (m : ℕ) (x : List ℕ) (k : ℕ) → (run_of (Some m) ds 1 nothing_yet x).used ≡ k
    → k < length x → IsOpen ds x × (length x ≤ m) → ⊥
closed ds proper m x k is early (open', fits) =
    let all = open_all ds proper x open' in
    let same = ap (λ (r : RunReport). r.used) (within_limit m ds 1 nothing_yet x (omega (arith, all, fits))) in
    omega (arith, is, early, all, same)

pub early_runs_stay : EachEarlyRunStays
early_runs_stay ds proper m x z first second report run early =
    let r : RunReport = record report { met = None } in
    let told = met_within open_all ds proper m (x ++ z) first report run in
    let is : r ≡ run_of (Some m) ds 1 nothing_yet (x ++ z) = told_is ds proper m (x ++ z) r told.0 in
    let long = length-append x z in
    let used : report.used ≡ (run_of (Some m) ds 1 nothing_yet (x ++ z)).used = ap (λ (v : RunReport). v.used) is in
    let same : run_of (Some m) ds 1 nothing_yet (x ++ z) ≡ run_of (Some m) ds 1 nothing_yet x =
    front_run m ds 1 0 nothing_yet x z (omega arith) (omega (arith, used, early)) in
    let none : report.met ≡ None = none_met report.met _ first told.1
    (closed ds proper m (x ++ z) report.used (sym used) (omega (arith, early, long))) in
    let here : TellsWithin ds m x r = subst (λ v. TellsWithin ds m x v) (sym (is ∙ same)) (told_exists ds proper m x) in
    subst (RunWithin ds m x second) (ap (λ met. record report { met = met }) (sym none))
    (within_met open_all ds proper m x second None r here
    (closed ds proper m x report.used (sym (used ∙ ap (λ (v : RunReport). v.used) same)) early))
