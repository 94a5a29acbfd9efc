-- Either some byte would be consumed next, or nothing that follows changes the run.
use Rattle.std.proofs.Common.{◌≡◌, ℕ, zero, suc, ◌+◌, ◌<◌, ◌≤◌, ◌⊎◌, inl, inr, Bool, true, false, cond, List, [], ◌∷◌, ◌++◌, length}
use Rattle.std.proofs.Common.{Option, Some}
use Rattle.std.proofs.Common.{None, refl, ap, subst, ◌∙◌, arith}
use Rattle.std.proofs.lemmas.List.{append-nil}
use Rattle.sf_format.specs.declared.directive.Directive.{Directive}
use Rattle.sf_format.specs.Proper.{IsProper, AreProper}
use Rattle.sf_report.specs.declared.outcome.Status.{Status}
use Rattle.sf_report.specs.declared.outcome.Status.TheVariants.{TooLong}
use Rattle.sf_report.specs.Steps.{StepEnd, Passes, Stores, Misses, Fails}
use Rattle.sf_report.specs.Runs.{RunReport, over}
use Rattle.sf_report.specs.Machine.{Stage, Skipping, stepped, is_full, finished}
use Rattle.sf_report.specs.Residual.{stepped_all, Tally, Part, choose, one_from, with_used, counted, out_of, by_end, is_over, or_zero}
use Rattle.sf_report.specs.Residual.{then_on, run_of, run_past, run_from}
use Rattle.sf_report.proofs.Joined.{one_from-all}
use Rattle.sf_report.proofs.Machines.{can_take_one, full_refuses, never_too_long, grows, keeps_all}

-- ---- by the directive's end

pub counted-used : (d : Directive) (o : StepEnd) (t : Tally) → (counted d o t).used ≡ t.used
counted-used d o t = grind arith

pub holds_by : (P : RunReport → Type 0) (o : StepEnd) (a : RunReport) (b : Status → RunReport) → P a → ((status : Status) → P (b status))
    → P (by_end o a b)
holds_by P o a b p q = grind arith

-- ---- the bytes that a run uses

-- with no input left nothing more is used
past_uses_nothing : (m : Option ℕ) (ds : List Directive) (at k : ℕ) (t : Tally) → is_over m t.used ≡ false
    → (run_past m ds at k t []).used ≡ t.used
past_uses_nothing m [] at k t h = refl
past_uses_nothing m (d ∷ ds) at zero t h = grind (arith, past_uses_nothing m ds)
past_uses_nothing m (d ∷ ds) at (suc k) t h = past_uses_nothing m ds (at + 1) k t h

pub uses_nothing : (m : Option ℕ) (ds : List Directive) (at : ℕ) (t : Tally) → is_over m t.used ≡ false
    → (run_of m ds at t []).used ≡ t.used
uses_nothing m ds at t h = past_uses_nothing m ds at 0 t h

pub rest_uses_nothing : (m : Option ℕ) (ds : List Directive) (q : Stage) (at : ℕ) (t : Tally) → is_over m t.used ≡ false
    → (run_from m ds q at t []).used ≡ t.used
rest_uses_nothing m ds q at t h = grind (arith, past_uses_nothing)

-- a run uses no more than there is
past_uses_within : (ds : List Directive) (at k : ℕ) (t : Tally) (x : List ℕ) → (run_past None ds at k t x).used ≤ t.used + length x
past_uses_within [] at k t x = omega arith
past_uses_within (d ∷ ds) at zero t x = grind (arith, keeps_all, past_uses_within ds)
past_uses_within (d ∷ ds) at (suc k) t x = past_uses_within ds (at + 1) k t x

pub uses_within : (ds : List Directive) (at : ℕ) (t : Tally) (x : List ℕ) → (run_of None ds at t x).used ≤ t.used + length x
uses_within ds at t x = past_uses_within ds at 0 t x

pub past_uses_more : (ds : List Directive) (at k : ℕ) (t : Tally) (x : List ℕ) → t.used ≤ (run_past None ds at k t x).used
past_uses_more [] at k t x = omega arith
past_uses_more (d ∷ ds) at zero t x = grind (arith, grows, past_uses_more ds)
past_uses_more (d ∷ ds) at (suc k) t x = past_uses_more ds (at + 1) k t x

pub uses_more : (ds : List Directive) (at : ℕ) (t : Tally) (x : List ℕ) → t.used ≤ (run_of None ds at t x).used
uses_more ds at t x = past_uses_more ds at 0 t x

-- ---- under a limit

-- a run within the limit is the run
past_within_limit : (m : ℕ) (ds : List Directive) (at k : ℕ) (t : Tally) (x : List ℕ) → (run_past None ds at k t x).used ≤ m
    → run_past (Some m) ds at k t x ≡ run_past None ds at k t x
past_within_limit m [] at k t x h = refl
past_within_limit m (d ∷ ds) at zero t x h = grind (arith, past_uses_more, past_within_limit m ds)
past_within_limit m (d ∷ ds) at (suc k) t x h = past_within_limit m ds (at + 1) k t x h

pub within_limit : (m : ℕ) (ds : List Directive) (at : ℕ) (t : Tally) (x : List ℕ) → (run_of None ds at t x).used ≤ m
    → run_of (Some m) ds at t x ≡ run_of None ds at t x
within_limit m ds at t x h = past_within_limit m ds at 0 t x h

-- a run without a limit is not too long
past_not_too_long : (ds : List Directive) (at k : ℕ) (t : Tally) (x : List ℕ) → (run_past None ds at k t x).status ≡ TooLong → ⊥
past_not_too_long [] at k t x h = cc
past_not_too_long (d ∷ ds) at zero t x h = grind (arith, never_too_long, past_not_too_long ds)
past_not_too_long (d ∷ ds) at (suc k) t x h = past_not_too_long ds (at + 1) k t x h

pub run_not_too_long : (ds : List Directive) (at : ℕ) (t : Tally) (x : List ℕ) → (run_of None ds at t x).status ≡ TooLong → ⊥
run_not_too_long ds at t x h = past_not_too_long ds at 0 t x h

-- a run past the limit is too long
past_over_is_too_long : (m : ℕ) (ds : List Directive) (at k : ℕ) (t : Tally) (x : List ℕ) → t.used ≤ m
    → m < (run_past None ds at k t x).used → (run_past (Some m) ds at k t x).status ≡ TooLong
past_over_is_too_long m [] at k t x le h = grind arith
past_over_is_too_long m (d ∷ ds) at zero t x le h = grind (arith, past_over_is_too_long m ds)
past_over_is_too_long m (d ∷ ds) at (suc k) t x le h = past_over_is_too_long m ds (at + 1) k t x le h

pub over_is_too_long : (m : ℕ) (ds : List Directive) (at : ℕ) (t : Tally) (x : List ℕ) → t.used ≤ m → m < (run_of None ds at t x).used
    → (run_of (Some m) ds at t x).status ≡ TooLong
over_is_too_long m ds at t x le h = past_over_is_too_long m ds at 0 t x le h

-- a run that is too long is so in one of its directives
past_too_long_at : (m : Option ℕ) (ds : List Directive) (at k : ℕ) (t : Tally) (x : List ℕ)
    → (run_past m ds at k t x).status ≡ TooLong → at ≤ (run_past m ds at k t x).at
past_too_long_at m [] at k t x h = absurd cc
past_too_long_at m (d ∷ ds) at zero t x h = grind (arith, past_too_long_at m ds)
past_too_long_at m (d ∷ ds) at (suc k) t x h = omega (arith, past_too_long_at m ds (at + 1) k t x h)

pub too_long_at : (m : Option ℕ) (ds : List Directive) (at : ℕ) (t : Tally) (x : List ℕ) → (run_of m ds at t x).status ≡ TooLong
    → at ≤ (run_of m ds at t x).at
too_long_at m ds at t x h = past_too_long_at m ds at 0 t x h

pub rest_too_long_at : (m : Option ℕ) (ds : List Directive) (q : Stage) (at : ℕ) (t : Tally) (x : List ℕ)
    → (run_from m ds q at t x).status ≡ TooLong
    → at ≤ (run_from m ds q at t x).at
rest_too_long_at m [] q at t x h = absurd cc
rest_too_long_at m (d ∷ ds) q at t x h = grind (arith, past_too_long_at)

-- ---- open or closed

abbrev pub more_left : Part → List ℕ → Part
more_left p z = record { used = p.used; left = p.left ++ z; end = p.end }

-- a directive that ended before a byte of x ends there on every longer input
pub stops_early : (d : Directive) (q : Stage) (n : ℕ) (x z : List ℕ) → stepped_all d q x ≡ None
    → one_from d q n (x ++ z) ≡ more_left (one_from d q n x) z
stops_early d q n [] z e = absurd cc
stops_early d q n (b ∷ x) z e = go (stepped d q b) e (λ r h. stops_early d r (n + 1) x z h)
  where
    go : (o : Option Stage) → choose o None (λ r. stepped_all d r x) ≡ None
        → ((r : Stage) → stepped_all d r x ≡ None → one_from d r (n + 1) (x ++ z) ≡ more_left (one_from d r (n + 1) x) z)
        → choose o (record { used = n; left = b ∷ (x ++ z); end = finished d q n true }) (λ p. one_from d p (n + 1) (x ++ z))
        ≡ more_left (choose o (record { used = n; left = b ∷ x; end = finished d q n true }) (λ p. one_from d p (n + 1) x)) z
    go o h ih = grind arith

pub record OpenAt (ds : List Directive) (at k : ℕ) (t : Tally) (x : List ℕ) : Type 0 where
  pub next : ℕ
  pub is_byte : next < 256
  pub takes : (run_past None ds at k t (x ++ next ∷ [])).used ≡ t.used + length x + 1
  pub all : (run_past None ds at k t x).used ≡ t.used + length x

abbrev pub ClosedAt : List Directive → ℕ → ℕ → Tally → List ℕ → Type 0
ClosedAt ds at k t x = (m : Option ℕ) (z : List ℕ) → run_past m ds at k t (x ++ z) ≡ run_past m ds at k t x

-- the rest of the run after a directive that leaves y
abbrev after : Option ℕ → Directive → List Directive → ℕ → Tally → StepEnd → ℕ → List ℕ → RunReport
after m d ds at t o n y = then_on m d at t (record { used = n; left = y; end = o }) (run_past m ds (at + 1))

abbrev AfterEither : StepEnd → Directive → List Directive → ℕ → Tally → ℕ → List ℕ → ℕ → Type 0
AfterEither o d ds at t n x k =
    ((b : ℕ) × (b < 256) × ((after None d ds at t o n (x ++ b ∷ [])).used ≡ k + 1) × ((after None d ds at t o n x).used ≡ k))
    ⊎ ((m : Option ℕ) (z : List ℕ) → after m d ds at t o n (x ++ z) ≡ after m d ds at t o n x)

-- by the end of the first directive
by_first : (o : StepEnd) (d : Directive) (ds : List Directive) (at : ℕ) (t : Tally) (n : ℕ) (x : List ℕ) (k : ℕ) → n + length x ≡ k
    → OpenAt ds (at + 1) (over d o) (counted d o (with_used n t)) x ⊎ ClosedAt ds (at + 1) (over d o) (counted d o (with_used n t)) x
    → AfterEither o d ds at t n x k
by_first Passes d ds at t n x k e (inl w) = inl (w.next, w.is_byte, omega (arith, w.takes), omega (arith, w.all))
by_first Passes d ds at t n x k e (inr w) = inr (λ m z. ap (λ (r : RunReport). cond (is_over m n)
    (out_of TooLong at (with_used (or_zero m) t)) r) (w m z))
by_first (Stores slot v) d ds at t n x k e (inl w) = inl (w.next, w.is_byte, omega (arith, w.takes), omega (arith, w.all))
by_first (Stores slot v) d ds at t n x k e (inr w) = inr (λ m z. ap
    (λ (r : RunReport). cond (is_over m n) (out_of TooLong at (with_used (or_zero m) t)) r) (w m z))
by_first Misses d ds at t n x k e (inl w) = inl (w.next, w.is_byte, omega (arith, w.takes), omega (arith, w.all))
by_first Misses d ds at t n x k e (inr w) = inr (λ m z. ap
    (λ (r : RunReport). cond (is_over m n) (out_of TooLong at (with_used (or_zero m) t)) r) (w m z))
by_first (Fails status) d ds at t n x k e w = inr (λ m z. refl)

abbrev Either : List Directive → ℕ → ℕ → Tally → List ℕ → Type 0
Either ds at k t x = OpenAt ds at k t x ⊎ ClosedAt ds at k t x

-- the first directive ends before a byte of x
early : (d : Directive) (ds : List Directive) (at : ℕ) (t : Tally) (x : List ℕ) → stepped_all d Skipping x ≡ None
    → (let p = one_from d Skipping t.used x in Either ds (at + 1) (over d p.end) (counted d p.end (with_used p.used t)) p.left)
    → Either (d ∷ ds) at 0 t x
early d ds at t x e ih =
    let p : Part = one_from d Skipping t.used x in
    elim (by_first p.end d ds at t p.used p.left (t.used + length x) (keeps_all d Skipping t.used x) ih) [
      | inl w ↦ inl (record { next = w.0; is_byte = w.1; takes = rw (stops_early d Skipping t.used x (w.0 ∷ []) e) w.2; all = w.3 })
      | inr w ↦ inr (λ m z. rw (stops_early d Skipping t.used x z e) (w m z))
    ]

-- it takes all of x, and would take no more
full_end : (d : Directive) (ds : List Directive) (at : ℕ) (t : Tally) (x : List ℕ) (r : Stage) → IsProper d
    → stepped_all d Skipping x ≡ Some r → is_full d r ≡ true
    → (let o = finished d r (t.used + length x) true in Either ds (at + 1) (over d o) (counted d o (with_used (t.used + length x) t)) [])
    → Either (d ∷ ds) at 0 t x
full_end d ds at t x r proper e full ih =
    let n : ℕ = t.used + length x in
    let o : StepEnd = finished d r n true in
    let goes : (z : List ℕ) → one_from d Skipping t.used (x ++ z) ≡ record { used = n; left = z; end = o } =
    λ z. one_from-all d Skipping r t.used x z e ∙ full_refuses d proper r n z full in
    let here : one_from d Skipping t.used x ≡ record { used = n; left = []; end = o } =
    subst (λ (y : List ℕ). one_from d Skipping t.used y ≡ record { used = n; left = []; end = o }) (append-nil x) (goes []) in
    elim (by_first o d ds at t n [] n (omega arith) ih) [
      | inl w ↦ inl (record { next = w.0; is_byte = w.1; takes = rw (goes (w.0 ∷ [])) w.2; all = rw here w.3 })
      | inr w ↦ inr (λ m z. rw (goes z, here) (w m z))
    ]

-- it takes all of x, and would take one more
takes_more : (d : Directive) (ds : List Directive) (at : ℕ) (t : Tally) (x : List ℕ) (r : Stage) → stepped_all d Skipping x ≡ Some r
    → is_full d r ≡ false
    → Either (d ∷ ds) at 0 t x
takes_more d ds at t x r e more =
    let n : ℕ = t.used + length x in
    let byte = can_take_one d r more in
    let b : ℕ = byte.0 in
    let next : one_from d Skipping t.used (x ++ b ∷ []) ≡ record { used = n + 1; left = []; end = finished d byte.2 (n + 1) false } =
    one_from-all d Skipping r t.used x (b ∷ []) e ∙ rw byte.3 refl in
    let here : one_from d Skipping t.used x ≡ record { used = n; left = []; end = finished d r n false } =
    subst (λ (y : List ℕ). one_from d Skipping t.used y ≡ record { used = n; left = []; end = finished d r n false }) (append-nil x)
    (one_from-all d Skipping r t.used x [] e) in
    inl (record {
      next = b;
      is_byte = byte.1;
      takes = rw next (holds_by (λ o. o.used ≡ n + 1) (finished d byte.2 (n + 1) false) _ _
          (past_uses_nothing None ds (at + 1) (over d (finished d byte.2 (n + 1) false)) _ refl
          ∙ counted-used d (finished d byte.2 (n + 1) false) (with_used (n + 1) t)) (λ status. refl));
      all = grind (arith, holds_by, past_uses_nothing, counted-used);
    })

pub open_or_closed : (ds : List Directive) (at k : ℕ) (t : Tally) (x : List ℕ) → AreProper ds → OpenAt ds at k t x ⊎ ClosedAt ds at k t x
open_or_closed [] at k t x proper = inr (λ m z. refl)
open_or_closed (d ∷ ds) at (suc k) t x proper = elim (open_or_closed ds (at + 1) k t x proper.1) [
  | inl w ↦ inl (record { next = w.next; is_byte = w.is_byte; takes = w.takes; all = w.all })
  | inr w ↦ inr w
]
open_or_closed (d ∷ ds) at zero t x proper = go (stepped_all d Skipping x) refl (λ k u y. open_or_closed ds (at + 1) k u y proper.1)
  where
    full_or : (r : Stage) (c : Bool) → is_full d r ≡ c → stepped_all d Skipping x ≡ Some r
        → ((k : ℕ) (u : Tally) (y : List ℕ) → Either ds (at + 1) k u y) → Either (d ∷ ds) at 0 t x
    full_or r true f e ih = full_end d ds at t x r proper.0 e f (ih _ _ _)
    full_or r false f e ih = takes_more d ds at t x r e f

    go : (o : Option Stage) → stepped_all d Skipping x ≡ o → ((k : ℕ) (u : Tally) (y : List ℕ) → Either ds (at + 1) k u y)
        → Either (d ∷ ds) at 0 t x
    go None e ih = early d ds at t x e (ih _ _ _)
    go (Some r) e ih = full_or r (is_full d r) refl e ih
