-- What a run that has come so far does with the rest of the input.
use Rattle.std.specs.Prelude.{ℕ, zero, suc, ◌+◌, Bool, true, false, if◌then◌else◌, nat_lt, List, [], ◌∷◌, ◌++◌, Option, Some, None}
use Rattle.sf_base.specs.Data.{Assigned}
use Rattle.sf_format.specs.declared.directive.Directive.{Directive}
use Rattle.sf_report.specs.declared.outcome.Status.{Status}
use Rattle.sf_report.specs.declared.outcome.Status.TheVariants.{Done, TooLong}
use Rattle.sf_report.specs.Steps.{StepEnd, Passes, Stores, Misses, Fails}
use Rattle.sf_report.specs.Runs.{RunReport, is_conversion, over}
use Rattle.sf_report.specs.Machine.{Stage, Skipping, stepped, finished}

-- what the directives that have passed gave, and the bytes used
pub record Tally : Type 0 where
  pub used : ℕ
  pub assigned : ℕ
  pub converted : ℕ
  pub values : List Assigned

abbrev pub nothing_yet : Tally
nothing_yet = record { used = 0; assigned = 0; converted = 0; values = [] }

abbrev pub with_used : ℕ → Tally → Tally
with_used n t = record { used = n; assigned = t.assigned; converted = t.converted; values = t.values }

-- one more, if the directive counts
abbrev pub count_on : Directive → ℕ → ℕ
count_on d n = if is_conversion d then n + 1 else n

-- with what a directive gives that ended so
abbrev pub counted : Directive → StepEnd → Tally → Tally
counted d Passes t = record { used = t.used; assigned = t.assigned; converted = count_on d t.converted; values = t.values }
counted d (Stores slot v) t =
    record {
      used = t.used;
      assigned = count_on d t.assigned;
      converted = count_on d t.converted;
      values =
          t.values ++ record { slot = slot; datum = v } ∷ [];
    }
counted d Misses t = t
counted d (Fails status) t = t

abbrev pub out_of : Status → ℕ → Tally → RunReport
out_of status at t = record {
  status = status;
  at = at;
  assigned = t.assigned;
  converted = t.converted;
  used = t.used;
  met = None;
  values = t.values;
}

-- what one directive leaves: the bytes used by the run, the input after them, and how the directive ended
pub record Part : Type 0 where
  pub used : ℕ
  pub left : List ℕ
  pub end : StepEnd

-- one of two, by an option
abbrev pub choose : {A B : Type 0} → Option A → B → (A → B) → B
choose None y f = y
choose (Some a) y f = f a

-- the stage after these bytes, where each of them is taken
abbrev pub stepped_all : Directive → Stage → List ℕ → Option Stage
stepped_all d q [] = Some q
stepped_all d q (b ∷ y) = choose (stepped d q b) None (λ r. stepped_all d r y)

-- a directive from a stage on, after n bytes of the run
abbrev pub one_from : Directive → Stage → ℕ → List ℕ → Part
one_from d q n [] = record { used = n; left = []; end = finished d q n false }
one_from d q n (b ∷ x) = choose (stepped d q b) (record { used = n; left = b ∷ x; end = finished d q n true }) (λ r. one_from d r (n + 1) x)

-- a limit that is passed; None is no limit
abbrev pub is_over : Option ℕ → ℕ → Bool
is_over None n = false
is_over (Some m) n = nat_lt m n

abbrev pub or_zero : Option ℕ → ℕ
or_zero None = 0
or_zero (Some m) = m

-- by the directive's end
abbrev pub by_end : {B : Type 0} → StepEnd → B → (Status → B) → B
by_end Passes y f = y
by_end (Stores slot v) y f = y
by_end Misses y f = y
by_end (Fails status) y f = f status

-- a directive's part, and then the directives after it, of which so many are missing with it
abbrev pub then_on : Option ℕ → Directive → ℕ → Tally → Part → (ℕ → Tally → List ℕ → RunReport) → RunReport
then_on m d at t p next = if is_over m p.used then out_of TooLong at (with_used (or_zero m) t)
    else by_end p.end (next (over d p.end) (counted d p.end (with_used p.used t)) p.left) (λ status. out_of status at (with_used p.used t))

-- the directives under a limit, of which the first is the one at this place, and the first k are missing with one
-- before them
abbrev pub run_past : Option ℕ → List Directive → ℕ → ℕ → Tally → List ℕ → RunReport
run_past m [] at k t x = out_of Done 0 t
run_past m (d ∷ ds) at zero t x = then_on m d at t (one_from d Skipping t.used x) (λ k u y. run_past m ds (at + 1) k u y)
run_past m (d ∷ ds) at (suc k) t x = run_past m ds (at + 1) k t x

-- the same from the start of the first
abbrev pub run_of : Option ℕ → List Directive → ℕ → Tally → List ℕ → RunReport
run_of m ds at t x = run_past m ds at 0 t x

-- the directives from a stage of the first one on
abbrev pub run_from : Option ℕ → List Directive → Stage → ℕ → Tally → List ℕ → RunReport
run_from m [] q at t x = out_of Done 0 t
run_from m (d ∷ ds) q at t x = then_on m d at t (one_from d q t.used x) (run_past m ds (at + 1))
