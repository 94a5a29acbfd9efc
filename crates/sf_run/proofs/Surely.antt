-- When a run that begins and passes within a piece is told.
use Rattle.std.proofs.Common.{◌≡◌, ℕ, zero, suc, ◌+◌, ◌-◌, ◌<◌, ◌≤◌, ◌||◌, min, Bool, true, false, cond, List, [], ◌∷◌, ◌++◌, length}
use Rattle.std.proofs.Common.{take, drop}
use Rattle.std.proofs.Common.{Option, Some, None, refl, sym, ap, subst, ◌∙◌, arith, length-append, length-drop}
use Rattle.std.specs.Prelude.{slice_get}
use Rattle.std.specs.List.{list_any}
use Rattle.std.proofs.lemmas.Bool.{or_left, or_right}
use Rattle.std.proofs.lemmas.List.{append-nil, take-append-drop}
use Rattle.std.proofs.lemmas.List.Sums.{sum_by-append, sum_by-cons}
use Rattle.sf_base.specs.Data.{Assigned, Datum}
use Rattle.sf_base.specs.stores.Kept.{Kept, texts_in, text_of, Opened, buffer_of}
use Rattle.sf_format.specs.declared.directive.Directive.{Directive}
use Rattle.sf_format.specs.Layout.{items_taken, takes_item}
use Rattle.sf_format.specs.Proper.{AreProper, IsColumned, has_group, has_optional, is_opener, is_optional, more_of}
use Rattle.sf_report.specs.declared.outcome.Ending.{Ending}
use Rattle.sf_report.specs.declared.outcome.Status.{Status}
use Rattle.sf_report.specs.declared.outcome.Status.TheVariants.{Done}
use Rattle.sf_run.specs.declared.tally.Tally as code
use Rattle.sf_report.specs.Machine.{Skipping}
use Rattle.sf_report.specs.Limits.{RunWithin}
use Rattle.sf_report.specs.Memory.{capacity_of}
use Rattle.sf_run.specs.Quick.{IsDoneWithin, IsEndedWithin, IsSure, text_stored}
use Rattle.sf_run.specs.declared.quick.Missing.{Missing}
use Rattle.sf_report.specs.Residual.{Part, Tally, by_end, counted, nothing_yet, one_from, out_of, run_of, run_past, with_used}
use Rattle.sf_report.specs.Runs.{RunReport, over, passed}
use Rattle.sf_report.specs.Steps.{StepEnd, Passes, Stores, Misses, Fails}
use Rattle.sf_run.specs.Tallies.{tally_of}
use Rattle.sf_run.specs.Written.{text_given, texts_by}
use Rattle.sf_run.specs.Counting.{Counted, Going}
use Rattle.sf_run.proofs.AtOnce.{one_misses, used_is}
use Rattle.sf_run.proofs.Groups.{drop_at}
use Rattle.sf_run.proofs.Moves.{sound_at}
use Rattle.sf_run.specs.Texts.{AreSound}
use Rattle.sf_report.proofs.Machines.{some_is}
use Rattle.sf_report.proofs.Openness.{counted-used, past_uses_more}
use Rattle.sf_run.proofs.Refusals.{never_done}
use Rattle.sf_run.proofs.Slots.{texts-push}
use Rattle.sf_run.proofs.Writing.{text_after}
use Rattle.sf_report.proofs.Told.{one_report, run_told}

-- ---- the texts of a run

texts_counted : (d : Directive) (end : StepEnd) (t : Tally) → texts_in (counted d end t).values ≡ texts_in t.values ++ text_stored end
texts_counted d end t = grind (arith, append-nil, texts-push)

texts_more : (ds : List Directive) (at k : ℕ) (t : Tally) (x : List ℕ)
    → length (texts_in t.values) ≤ length (texts_in (run_past None ds at k t x).values)
texts_more [] at k t x = omega arith
texts_more (d ∷ ds) at zero t x = grind (arith, texts_counted, length-append, texts_more ds)
texts_more (d ∷ ds) at (suc k) t x = texts_more ds (at + 1) k t x

-- ---- what is written of a run

by_counted : (text : Datum → List ℕ) (d : Directive) (end : StepEnd) (t : Tally)
    → texts_by text (counted d end t).values ≡ texts_by text t.values ++ text_given text end
by_counted text d Passes t = sym (append-nil (texts_by text t.values))
by_counted text d (Stores slot v) t = text_after text (Stores slot v) t.values
by_counted text d Misses t = sym (append-nil (texts_by text t.values))
by_counted text d (Fails status) t = sym (append-nil (texts_by text t.values))

written_more : (text : Datum → List ℕ) (ds : List Directive) (at k : ℕ) (t : Tally) (x : List ℕ)
    → length (texts_by text t.values) ≤ length (texts_by text (run_past None ds at k t x).values)
written_more text [] at k t x = omega arith
written_more text (d ∷ ds) at zero t x = grind (arith, by_counted, length-append, written_more text ds)
written_more text (d ∷ ds) at (suc k) t x = written_more text ds (at + 1) k t x

-- ---- what a run counts

abbrev one_if : Bool → ℕ
one_if v = cond v 1 0

items-cons : (d : Directive) (ds : List Directive) → items_taken (d ∷ ds) ≡ one_if (takes_item d) + items_taken ds
items-cons d ds = sum_by-cons (λ e. one_if (takes_item e)) d ds

counted_most : (d : Directive) (end : StepEnd) (t : Tally) → (counted d end t).converted ≤ t.converted + one_if (takes_item d)
counted_most d end t = grind arith

-- no more conversions than there are
converted_most : (ds : List Directive) (at k : ℕ) (t : Tally) (x : List ℕ)
    → (run_past None ds at k t x).converted ≤ t.converted + items_taken ds
converted_most [] at k t x = omega arith
converted_most (d ∷ ds) at zero t x = grind (arith, counted_most, items-cons, converted_most ds)
converted_most (d ∷ ds) at (suc k) t x = let rest = converted_most ds (at + 1) k t x in omega (arith, rest, items-cons d ds)

-- ---- the next directive of a run

-- what is known of the first directive of a run
record FirstOf (d : Directive) (t : Tally) (x : List ℕ) (r : RunReport) : Type 0 where
  pub early : (one_from d Skipping t.used x).used ≤ r.used
  pub texts : length (texts_in t.values) + length (text_stored (one_from d Skipping t.used x).end) ≤ length (texts_in r.values)
  pub written : (text : Datum → List ℕ)
      → length (texts_by text t.values) + length (text_given text (one_from d Skipping t.used x).end) ≤ length (texts_by text r.values)

-- the rest of a run after its first directive, which ends so
abbrev behind : Directive → List Directive → ℕ → Tally → Part → StepEnd → RunReport
behind d ds at t p end = by_end end (run_past None ds (at + 1) (over d end) (counted d end (with_used p.used t)) p.left)
    (λ status. out_of status at (with_used p.used t))

-- where all are counted that a run may count, its first directive isn't missing
none_missing : (d : Directive) → IsColumned d → is_opener d ≡ false → (ds : List Directive) (at : ℕ) (t : Tally) (x : List ℕ)
    → (is_optional d ≡ true → (run_of None (d ∷ ds) at t x).converted ≡ t.converted + items_taken (d ∷ ds))
    → (one_from d Skipping t.used x).end ≡ Misses → ⊥
none_missing d sound alone ds at t x whole is =
    let p : Part = one_from d Skipping t.used x in
    let own = one_misses d sound Skipping t.used x is in
    let optional = own.0 in
    let takes = own.1 alone in
    let all = whole optional in
    let same = ap (λ (r : RunReport). r.converted) (ap (behind d ds at t p) is) in
    let most = converted_most ds (at + 1) (more_of d) (with_used p.used t) p.left in
    let more = items-cons d ds ∙ ap (λ v. one_if v + items_taken ds) takes in
    omega (arith, all, same, most, more)

first_of : (d : Directive) (ds : List Directive) (at : ℕ) (t : Tally) (x : List ℕ) → FirstOf d t x (run_of None (d ∷ ds) at t x)
first_of d ds at t x = by_case (one_from d Skipping t.used x).end refl
  where
    more : (end : StepEnd) → (one_from d Skipping t.used x).end ≡ end
        → behind d ds at t (one_from d Skipping t.used x) end ≡ run_past None ds (at + 1) (over d end)
        (counted d end (with_used (one_from d Skipping t.used x).used t)) (one_from d Skipping t.used x).left
        → FirstOf d t x (run_of None (d ∷ ds) at t x)
    more end is same =
        let p : Part = one_from d Skipping t.used x in
        let u : Tally = counted d end (with_used p.used t) in
        let whole : run_of None (d ∷ ds) at t x ≡ run_past None ds (at + 1) (over d end) u p.left = ap (behind d ds at t p) is ∙ same in
        let rest : RunReport = run_past None ds (at + 1) (over d end) u p.left in
        let used' : (run_of None (d ∷ ds) at t x).used ≡ rest.used = ap (λ (r : RunReport). r.used) whole in
        let texts' : length (texts_in (run_of None (d ∷ ds) at t x).values) ≡ length (texts_in rest.values) =
        ap (λ (r : RunReport). length (texts_in r.values)) whole in
        let same' : length (texts_in u.values) ≡ length (texts_in t.values ++ text_stored end) =
        ap length (texts_counted d end (with_used p.used t)) in
        let long = length-append (texts_in t.values) (text_stored end) in
        let own : length (text_stored p.end) ≡ length (text_stored end) = ap (λ (e : StepEnd). length (text_stored e)) is in
        let on = counted-used d end (with_used p.used t) in
        let later = past_uses_more ds (at + 1) (over d end) u p.left in
        let longer = texts_more ds (at + 1) (over d end) u p.left in
        record {
          early = omega (arith, used', on, later);
          texts = omega (arith, texts', same', long, own, longer);
          written = λ text.
              let all : length (texts_by text (run_of None (d ∷ ds) at t x).values)
              ≡ length (texts_by text (run_past None ds (at + 1) (over d end) u p.left).values) =
              ap (λ (r : RunReport). length (texts_by text r.values)) whole in
              let with : length (texts_by text u.values) ≡ length (texts_by text t.values ++ text_given text end) =
              ap length (by_counted text d end (with_used p.used t)) in
              let both = length-append (texts_by text t.values) (text_given text end) in
              let one : length (text_given text p.end) ≡ length (text_given text end) =
              ap (λ (e : StepEnd). length (text_given text e)) is in
              let more = written_more text ds (at + 1) (over d end) u p.left in
              omega (arith, all, with, both, one, more);
        }

    -- it fails, and the run is over
    over : (status : Status) → (one_from d Skipping t.used x).end ≡ Fails status → FirstOf d t x (run_of None (d ∷ ds) at t x)
    over status is =
        let p : Part = one_from d Skipping t.used x in
        let whole : run_of None (d ∷ ds) at t x ≡ out_of status at (with_used p.used t) = ap (behind d ds at t p) is in
        let used' = ap (λ (r : RunReport). r.used) whole in
        let texts' = ap (λ (r : RunReport). length (texts_in r.values)) whole in
        let own : length (text_stored p.end) ≡ 0 = ap (λ (e : StepEnd). length (text_stored e)) is in
        record {
          early = omega (arith, used');
          texts = omega (arith, texts', own);
          written = λ text.
              let all = ap (λ (r : RunReport). length (texts_by text r.values)) whole in
              let one : length (text_given text p.end) ≡ 0 = ap (λ (e : StepEnd). length (text_given text e)) is in
              omega (arith, all, one);
        }

    by_case : (end : StepEnd) → (one_from d Skipping t.used x).end ≡ end → FirstOf d t x (run_of None (d ∷ ds) at t x)
    by_case Misses is = more Misses is refl
    by_case Passes is = more Passes is refl
    by_case (Stores slot v) is = more (Stores slot v) is refl
    by_case (Fails status) is = over status is

-- where the run is Done, and counts all that it may count, it passes
first_passes : (d : Directive) → IsColumned d → is_opener d ≡ false → (ds : List Directive) (at : ℕ) (t : Tally) (x : List ℕ)
    → (run_of None (d ∷ ds) at t x).status ≡ Done
    → (is_optional d ≡ true → (run_of None (d ∷ ds) at t x).converted ≡ t.converted + items_taken (d ∷ ds))
    → passed (one_from d Skipping t.used x).end ≡ true
first_passes d sound alone ds at t x done whole = by_case (one_from d Skipping t.used x).end refl
  where
    by_case : (end : StepEnd) → (one_from d Skipping t.used x).end ≡ end → passed (one_from d Skipping t.used x).end ≡ true
    by_case Misses is = absurd (none_missing d sound alone ds at t x whole is)
    by_case Passes is = ap passed is
    by_case (Stores slot v) is = ap passed is
    by_case (Fails status) is = absurd (never_done d Skipping t.used x status is
        (ap (λ (r : RunReport). r.status) (sym (ap (behind d ds at t (one_from d Skipping t.used x)) is)) ∙ done))

or_false : (a b : Bool) → (a || b) ≡ false → (a ≡ false) × (b ≡ false)
or_false true b e = absurd cc
or_false false b e = (refl, e)

optional_at : (ds : List Directive) (p : ℕ) (d : Directive) → slice_get ds p ≡ Some d → is_optional d ≡ true → has_optional ds ≡ true
optional_at [] p d at is = absurd cc
optional_at (e ∷ ds) zero d at is = or_left (is_optional e) (list_any is_optional ds) (ap is_optional (some_is e d at) ∙ is)
optional_at (e ∷ ds) (suc p) d at is = or_right (is_optional e) (list_any is_optional ds) (optional_at ds p d at is)

-- where no directive opens a group, this one doesn't
alone_at : (ds : List Directive) (p : ℕ) (d : Directive) → slice_get ds p ≡ Some d → has_group ds ≡ false → is_opener d ≡ false
alone_at [] p d at none = absurd cc
alone_at (e ∷ ds) zero d at none =
    ap is_opener (sym (some_is e d at)) ∙ (or_false (is_opener e) (list_any is_opener ds) none).0
alone_at (e ∷ ds) (suc p) d at none = alone_at ds p d at (or_false (is_opener e) (list_any is_opener ds) none).1

-- those that take an item are among the first so many, or after them
items_split : (ds : List Directive) (p : ℕ) → items_taken ds ≡ items_taken (take p ds) + items_taken (drop p ds)
items_split ds p = ap items_taken (sym (take-append-drop p ds))
    ∙ sum_by-append (λ e. one_if (takes_item e)) (take p ds) (drop p ds)

-- the next directive of a run with this report, whose input goes on so after the rest, ends within the rest, and what is written of it and
-- before is a part of what is written of the run
pub record NextOf (d : Directive) (n : ℕ) (rest after : List ℕ) (room : ℕ) (values : List Assigned) (report : RunReport) : Type 0 where
  pub early : (one_from d Skipping n (rest ++ after)).used < n + length rest
  pub fits : length (text_stored (one_from d Skipping n (rest ++ after)).end) ≤ room
  pub written : (text : Datum → List ℕ) → length (texts_by text values)
      + length (text_given text (one_from d Skipping n (rest ++ after)).end) ≤ length (texts_by text report.values)

-- the run from the next directive on
whole_at : (ds : List Directive) (front rest : List ℕ) (p : ℕ) (d : Directive) (t : code.Tally) (kept : Kept) → slice_get ds p ≡ Some d
    → Going ds front p t kept → run_of None ds 1 nothing_yet (front ++ rest)
    ≡ run_of None (d ∷ drop (p + 1) ds) (p + 1) (tally_of t kept.values) (drop t.used front ++ rest)
whole_at ds front rest p d t kept at h =
    h.same rest ∙ ap (λ l. run_of None l (p + 1) (tally_of t kept.values) (drop t.used front ++ rest)) (drop_at ds p d at)

-- where the run on the front and what follows ends within the front, the next directive ends within it
next_at : (ds : List Directive) (front rest : List ℕ) (p : ℕ) (d : Directive) (t : code.Tally) (kept : Kept) (capacity : ℕ)
    → slice_get ds p ≡ Some d → Going ds front p t kept → (run_of None ds 1 nothing_yet (front ++ rest)).used < length front
    → length (texts_in (run_of None ds 1 nothing_yet (front ++ rest)).values) ≤ capacity → capacity ≤ capacity_of kept
    → NextOf d t.used (drop t.used front) rest kept.room kept.values (run_of None ds 1 nothing_yet (front ++ rest))
next_at ds front rest p d t kept capacity at h early fits roomy =
    let x : List ℕ = drop t.used front ++ rest in
    let u : Tally = tally_of t kept.values in
    let whole : run_of None ds 1 nothing_yet (front ++ rest) ≡ run_of None (d ∷ drop (p + 1) ds) (p + 1) u x =
    whole_at ds front rest p d t kept at h in
    let first : FirstOf d u x (run_of None (d ∷ drop (p + 1) ds) (p + 1) u x) = first_of d (drop (p + 1) ds) (p + 1) u x in
    let used' = ap (λ (r : RunReport). r.used) whole in
    let texts' = ap (λ (r : RunReport). length (texts_in r.values)) whole in
    let left = length-drop t.used front in
    let low = h.within in
    let soon = first.early in
    let text = first.texts in
    let closed = ap length h.joined in
    let held : length (buffer_of kept) ≡ length kept.closed = ap (λ (o : Option Opened). length (kept.closed ++ text_of o)) h.opened
    ∙ ap length (append-nil kept.closed) in
    record {
      early = omega (arith, used', left, low, soon, early);
      fits = omega (arith, texts', text, closed, held, fits, roomy);
      written = λ text.
          let all = ap (λ (r : RunReport). length (texts_by text r.values)) whole in
          let part = first.written text in
          omega (arith, all, part);
    }

-- and where it is Done, and no item of it is missing, the next directive passes
passes_at : (ds : List Directive) (front rest : List ℕ) (p : ℕ) (d : Directive) (t : code.Tally) (kept : Kept) → IsColumned d
    → slice_get ds p ≡ Some d
    → Going ds front p t kept → (run_of None ds 1 nothing_yet (front ++ rest)).status ≡ Done → t.converted ≡ items_taken (take p ds)
    → has_group ds ≡ false → (has_optional ds ≡ true → (run_of None ds 1 nothing_yet (front ++ rest)).converted ≡ items_taken ds)
    → passed (one_from d Skipping t.used (drop t.used front ++ rest)).end ≡ true
passes_at ds front rest p d t kept sound at h done counts alone all =
    let u : Tally = tally_of t kept.values in
    let whole = whole_at ds front rest p d t kept at h in
    first_passes d sound (alone_at ds p d at alone) (drop (p + 1) ds) (p + 1) u (drop t.used front ++ rest)
    (sym (ap (λ (r : RunReport). r.status) whole) ∙ done)
    (λ is. sym (ap (λ (r : RunReport). r.converted) whole) ∙ all (optional_at ds p d at is) ∙ items_split ds p
    ∙ ap (λ n. n + items_taken (drop p ds)) (sym counts) ∙ ap (λ l. t.converted + items_taken l) (drop_at ds p d at))

-- a run that is Done has ended
abbrev pub ended_of : {ds : List Directive} {limit : ℕ} {piece : List ℕ} {capacity : ℕ} → IsDoneWithin ds limit piece capacity
    → IsEndedWithin ds limit piece capacity
ended_of h = record { ending = h.ending; report = h.report; is = h.is; early = h.early; low = h.low; fits = h.fits }

-- the run on the front of a piece that ends before a byte of it is lacking
pub ended_on : (ds : List Directive) → AreProper ds → (limit : ℕ) (piece : List ℕ) (capacity : ℕ)
    → (h : IsEndedWithin ds limit piece capacity) → run_of None ds 1 nothing_yet piece ≡ record h.report { met = None }
ended_on ds proper limit piece capacity h = grind (arith, run_told)

-- the same, where the front is cut by the limit
on_front : (ds : List Directive) → AreProper ds → (limit most : ℕ) (piece front : List ℕ) (capacity : ℕ) → front ≡ take most piece
    → (h : IsEndedWithin ds limit piece capacity)
    → run_of None ds 1 nothing_yet (front ++ drop most piece) ≡ record h.report { met = None }
on_front ds proper limit most piece front capacity is h =
    ap (run_of None ds 1 nothing_yet) (ap (λ (y : List ℕ). y ++ drop most piece) is ∙ take-append-drop most piece)
    ∙ ended_on ds proper limit piece capacity h

-- the next directive of a run on a piece that ends before a byte of it is lacking
pub next_of : (ds : List Directive) → AreProper ds → (limit most n : ℕ) (piece front rest : List ℕ) (p : ℕ) (d : Directive)
    (missing : Missing) (kept : Kept) (capacity : ℕ) → slice_get ds p ≡ Some d
    → front ≡ take most piece → length front ≡ most → most ≡ min limit (length piece) → Counted ds front rest p missing kept
    → n ≡ length front - length rest → capacity ≤ capacity_of kept
    → (ended : IsEndedWithin ds limit piece capacity) → NextOf d n rest (drop most piece) kept.room kept.values ended.report
next_of ds proper limit most n piece front rest p d missing kept capacity at is long least h begins roomy ended =
    let r : RunReport = record ended.report { met = None } in
    let same : run_of None ds 1 nothing_yet (front ++ drop most piece) ≡ r = on_front ds proper limit most piece front capacity is ended in
    let used' : (run_of None ds 1 nothing_yet (front ++ drop most piece)).used ≡ r.used = ap (λ (r : RunReport). r.used) same in
    let texts' : length (texts_in (run_of None ds 1 nothing_yet (front ++ drop most piece)).values) ≡ length (texts_in r.values) =
    ap (λ (r : RunReport). length (texts_in r.values)) same in
    let early = ended.early in
    let low = ended.low in
    let fits = ended.fits in
    let here : h.tally.used ≡ n = used_is ds front rest p missing kept h ∙ sym begins in
    let next : NextOf d h.tally.used (drop h.tally.used front) (drop most piece) kept.room kept.values
    (run_of None ds 1 nothing_yet (front ++ drop most piece)) =
    next_at ds front (drop most piece) p d h.tally kept capacity at h.going
    (omega (arith, used', early, low, long, least)) (omega (arith, texts', fits)) roomy in
    let of : NextOf d n rest (drop most piece) kept.room kept.values r =
    subst (λ q. NextOf d n rest (drop most piece) kept.room kept.values q) same (subst (λ m. NextOf d m rest (drop most piece) kept.room
    kept.values (run_of None ds 1 nothing_yet (front ++ drop most piece))) here
    (subst (λ y. NextOf d h.tally.used y (drop most piece) kept.room kept.values
    (run_of None ds 1 nothing_yet (front ++ drop most piece))) (sym h.rest) next)) in
    record { early = of.early; fits = of.fits; written = of.written }

-- and where it is Done, and no item of it is missing
pub next_passes : (ds : List Directive) → AreSound ds → (limit most n : ℕ) (piece front rest : List ℕ) (p : ℕ) (d : Directive)
    (kept : Kept) (capacity : ℕ) → slice_get ds p ≡ Some d → front ≡ take most piece
    → Counted ds front rest p (record { assigned = 0; converted = 0 }) kept
    → n ≡ length front - length rest → has_group ds ≡ false → IsDoneWithin ds limit piece capacity
    → passed (one_from d Skipping n (rest ++ drop most piece)).end ≡ true
next_passes ds sound limit most n piece front rest p d kept capacity at is h begins alone done =
    let same = on_front ds sound.0 limit most piece front capacity is (ended_of done) in
    let here : h.tally.used ≡ n = used_is ds front rest p (record { assigned = 0; converted = 0 }) kept h ∙ sym begins in
    let counts = h.converted in
    subst (λ m. passed (one_from d Skipping m (rest ++ drop most piece)).end ≡ true) here
    (subst (λ y. passed (one_from d Skipping h.tally.used (y ++ drop most piece)).end ≡ true) (sym h.rest)
    (passes_at ds front (drop most piece) p d h.tally kept (sound_at ds p d sound at).1 at h.going (ap (λ (r : RunReport). r.status) same
    ∙ done.done)
    (omega (arith, counts)) alone (λ is. ap (λ (r : RunReport). r.converted) same ∙ done.whole is)))

pub sure_next : (ds : List Directive) → AreProper ds → (limit most n : ℕ) (piece front rest : List ℕ) (p : ℕ) (d : Directive)
    (missing : Missing) (kept : Kept) (capacity : ℕ) → slice_get ds p ≡ Some d
    → front ≡ take most piece → length front ≡ most → most ≡ min limit (length piece) → Counted ds front rest p missing kept
    → n ≡ length front - length rest → capacity ≤ capacity_of kept
    → IsEndedWithin ds limit piece capacity → IsSure d n rest kept.room
sure_next ds proper limit most n piece front rest p d missing kept capacity at is long least h begins roomy ended =
    let next = next_of ds proper limit most n piece front rest p d missing kept capacity at is long least h begins roomy ended in
    record { after = drop most piece; early = next.early; fits = next.fits }

-- the report of a run on a piece, whatever follows, is that of the run that is Done on it
pub done_seen : (ds : List Directive) → AreProper ds → (limit : ℕ) (piece : List ℕ) (capacity : ℕ) (report : RunReport)
    → ((z : List ℕ) (ending : Ending) → RunWithin ds limit (piece ++ z) ending report) → IsDoneWithin ds limit piece capacity
    → report.status ≡ Done
done_seen ds proper limit piece capacity report run done =
    let all = one_report ds proper limit piece done.ending in
    let own = subst (λ y. RunWithin ds limit y done.ending report) (append-nil piece) (run [] done.ending) in
    ap (λ (r : RunReport). r.status) (all.only report own ∙ sym (all.only done.report done.is)) ∙ done.done
