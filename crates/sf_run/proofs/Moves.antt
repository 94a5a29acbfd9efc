-- How the rest of a run changes with each move of the scanner.
use Rattle.std.proofs.lemmas.Grind.{common_steps}
use Rattle.std.proofs.Common.{◌≡◌, ℕ, ◌+◌, ◌≤◌, ◌<◌, Bool, true, false, cond, ltb, List, [], ◌∷◌, ◌++◌, length, take, drop}
use Rattle.std.proofs.Common.{length-append, Option, Some, None, is_some, inl, inr, refl, sym, ap, ap₂, subst, ◌∙◌, arith}
use Rattle.std.specs.Prelude.{slice_get, IfNone, IsSome}
use Rattle.std.specs.List.{AllByRecursion}
use Rattle.std.proofs.lemmas.Option.{slice_get_cases}
use Rattle.std.proofs.lemmas.List.{drop_all, length-take-le}
use Rattle.std.proofs.lemmas.Bool.{lt-ltb}
use Rattle.sf_base.specs.stores.Kept.{Opened, text_of}
use Rattle.sf_format.specs.declared.directive.Directive.{Directive}
use Rattle.sf_format.specs.Proper.{IsAccepted, IsColumned, IsProper, AreColumned, AreProper, destinations_of}
use Rattle.sf_item.specs.declared.item.ItemScan.{ItemScan}
use Rattle.sf_run.specs.declared.directive.Finished.{Finished}
use Rattle.sf_run.specs.declared.directive.Phase.{Phase}
use Rattle.sf_run.specs.declared.directive.Phase.TheVariants as phase
use Rattle.sf_run.specs.declared.directive.Run.{Run}
use Rattle.sf_report.specs.declared.outcome.Status.{Status}
use Rattle.sf_report.specs.declared.outcome.Status.TheVariants.{Done, TooLong}
use Rattle.sf_run.specs.declared.scanner.Stop.{Stop}
use Rattle.sf_report.specs.Steps.{StepEnd, Passes, Stores, Misses, Fails}
use Rattle.sf_report.specs.Runs.{RunReport, over}
use Rattle.sf_report.specs.Machine.{Stage, Skipping, stepped, finished}
use Rattle.sf_run.specs.Phases.{Shows, ShowsItem, GrowsBy, Brings, end_of, is_failing, slot_closed, slot_in}
use Rattle.sf_run.specs.Pieces.{IsEnd}
use Rattle.sf_run.specs.Places.{is_destination, places_left}
use Rattle.sf_report.specs.Residual.{Tally, stepped_all, one_from, with_used, counted, out_of, by_end, run_of, run_past, run_from}
use Rattle.sf_run.specs.Stopping.{is_no_memory}
use Rattle.sf_run.specs.Standing.{Standing, ShowsFirst, DoesBy, Does, Ends, Follows, Keeps, Stops, TakesAll, Refuses, RefusesIn}
use Rattle.sf_run.specs.Standing.{Passes as Passed, passed_with}
use Rattle.sf_run.specs.Texts.{AreSound, IsNextSlot, IsSound, closing_text, item_of, opened_for, opened_slot, opened_with}
use Rattle.sf_run.specs.Texts.{text_begun, text_slot, text_taken}
use Rattle.sf_report.proofs.Openness.{counted-used}
use Rattle.sf_report.proofs.Machines.{grows}
use Rattle.sf_report.proofs.Joined.{one_from-all}
use Rattle.sf_run.proofs.Columns.{none_begun, some_begun}
use Rattle.sf_run.proofs.Groups.{drop_at, past_from}
use Rattle.sf_run.proofs.Pieces.{parted, same_part}

-- ---- the directive at a place

all_behind : {A : Type 0} (P : A → Type 0) (xs : List A) (i : ℕ) → AllByRecursion P xs → AllByRecursion P (drop i xs)
all_behind P xs i h = grind (arith, common_steps)

pub proper_at : (ds : List Directive) (p : ℕ) (d : Directive) → AreProper ds → slice_get ds p ≡ Some d → IsProper d
proper_at ds p d h at = grind (arith, drop_at, all_behind)

columned_at : (ds : List Directive) (p : ℕ) (d : Directive) → AreColumned ds → slice_get ds p ≡ Some d → IsColumned d
columned_at ds p d h at =
    (subst (λ (l : List Directive). AreColumned l) (drop_at ds p d at) (all_behind IsColumned ds p h)).0

-- the directives of an accepted format are sound
pub sound_of : (ds all : List Directive) → ds ≡ all → AreProper ds → IsAccepted all → AreSound ds
sound_of ds all same proper accepted = (proper, subst (λ (l : List Directive). AreColumned l) (sym same) accepted.columns)

pub sound_at : (ds : List Directive) (p : ℕ) (d : Directive) → AreSound ds → slice_get ds p ≡ Some d → IsSound d
sound_at ds p d h at = (proper_at ds p d h.0 at, columned_at ds p d h.1 at)

-- ---- places

abbrev one_if : Bool → ℕ
one_if true = 1
one_if false = 0

places_of : (d : Directive) (ds : List Directive) → length (destinations_of (d ∷ ds))
    ≡ one_if (is_destination d) + length (destinations_of ds)
places_of d ds = grind arith

-- one place less after a destination
pub places_next : (ds : List Directive) (p : ℕ) (d : Directive) → slice_get ds p ≡ Some d
    → places_left ds p ≡ one_if (is_destination d) + places_left ds (p + 1)
places_next ds p d at = ap (λ rest. length (destinations_of rest)) (drop_at ds p d at) ∙ places_of d (drop (p + 1) ds)

-- ---- a directive that ends

pub passes : (f : StepEnd) (y : RunReport) (g : Status → RunReport) → ((status : Status) → f ≡ Fails status → ⊥) → by_end f y g ≡ y
passes f y g h = grind arith

pub fresh : (m : Option ℕ) (ds : List Directive) (at : ℕ) (t : Tally) (z : List ℕ) → run_from m ds Skipping at t z ≡ run_of m ds at t z
fresh m ds at t z = grind arith

pub shows_fresh : (ds : List Directive) → ShowsFirst ds phase.Skipping None Skipping
shows_fresh ds = grind arith

-- the first directive takes so much of y, ends so and leaves z
ended_part : (k : ℕ) (d : Directive) (ds : List Directive) (q : Stage) (at : ℕ) (t u : Tally) (y z : List ℕ) (f : StepEnd) → u.used ≤ k
    → u ≡ with_used u.used t
    → one_from d q t.used y ≡ record { used = u.used; left = z; end = f }
    → run_from (Some k) (d ∷ ds) q at t y
    ≡ by_end f (run_past (Some k) ds (at + 1) (over d f) (counted d f u) z) (λ status. out_of status at u)
ended_part k d ds q at t u y z f le same e = grind arith

-- it would take more than the limit allows
over_limit : (k : ℕ) (d : Directive) (ds : List Directive) (q : Stage) (at : ℕ) (t : Tally) (y : List ℕ) → k < (one_from d q t.used y).used
    → run_from (Some k) (d ∷ ds) q at t y ≡ out_of TooLong at (with_used k t)
over_limit k d ds q at t y more = rw (lt-ltb _ _ more) refl

module _ (ds : List Directive) (p : ℕ) (d : Directive) (at : slice_get ds p ≡ Some d) (current : Phase) (opened : Option Opened)
    (t : Tally) (k : ℕ) (y : List ℕ)
    (report : RunReport) (does : DoesBy None ds p current opened t k y report) where
  -- the stage that the phase shows
  pub shows : Shows d current does.0 × (opened ≡ opened_for d does.0)
  shows = subst (λ rest. ShowsFirst rest current opened does.0) (drop_at ds p d at) does.1

  went : report ≡ run_from (Some k) (d ∷ drop (p + 1) ds) does.0 (p + 1) t y
  went = does.2 ∙ ap (λ rest. run_from (Some k) rest does.0 (p + 1) t y) (drop_at ds p d at)

  pub too_long : ((q : Stage) → Shows d current q → k < (one_from d q t.used y).used) → report ≡ out_of TooLong (p + 1) (with_used k t)
  too_long more = went ∙ over_limit k d (drop (p + 1) ds) does.0 (p + 1) t y (more does.0 shows.0)

  module _ (u : Tally) (z : List ℕ) (f : StepEnd) (within : u.used ≤ k) (same : u ≡ with_used u.used t)
      (takes : (q : Stage) → Shows d current q → opened ≡ opened_for d q
      → one_from d q t.used y ≡ record { used = u.used; left = z; end = f }) where
    ended : report
        ≡ by_end f (run_past (Some k) (drop (p + 1) ds) (p + 1 + 1) (over d f) (counted d f u) z) (λ status. out_of status (p + 1) u)
    ended = went ∙ ended_part k d (drop (p + 1) ds) does.0 (p + 1) t u y z f within same (takes does.0 shows.0 shows.1)

    pub close_passes : ((status : Status) → f ≡ Fails status → ⊥)
        → DoesBy None ds (passed_with ds p d f) phase.Skipping None (counted d f u) k z report
    close_passes ok =
        let q : ℕ = passed_with ds p d f in (
          Skipping,
          shows_fresh (drop q ds),
          ended ∙ passes f _ _ ok ∙ past_from ds p d at (Some k) f (counted d f u) z
              ∙ sym (fresh (Some k) (drop q ds) (q + 1) (counted d f u) z),
        )

    pub close_fails : (status : Status) → f ≡ Fails status → report ≡ out_of status (p + 1) u
    close_fails status e = ended ∙ ap (λ g. by_end g (run_past (Some k) (drop (p + 1) ds) (p + 1 + 1) (over d f) (counted d f u) z)
        (λ s. out_of s (p + 1) u)) e

slice_get_none : {A : Type 0} (xs : List A) (i : ℕ) → slice_get xs i ≡ None → length xs ≤ i
slice_get_none xs i h = elim (slice_get_cases xs i).1 [ inl w ↦ absurd (let e = w.2 in cc) | inr w ↦ w.0 ]

-- every directive has passed
pub conclude_same : (ds : List Directive) (p : ℕ) (current : Phase) (opened : Option Opened) (t : Tally) (k : ℕ) (z : List ℕ)
    (report : RunReport) → slice_get ds p ≡ None
    → DoesBy None ds p current opened t k z report → report ≡ out_of Done 0 t
conclude_same ds p current opened t k z report h does = grind (arith, drop_all, slice_get_none)

pub waiting : (s : Standing) (k : ℕ) (z : List ℕ) (report : RunReport) → s.ended ≡ None → Does s k z report
    → DoesBy None s.directives s.passed s.phase s.opened s.tally k z report
waiting s k z report e does = subst (λ o. DoesBy o s.directives s.passed s.phase s.opened s.tally k z report) e does

-- what is done by the fields
pub same_does : (s : Standing) (o : Option Stop) (ds : List Directive) (p : ℕ) (current : Phase) (opened : Option Opened) (t : Tally)
    (k : ℕ) (z : List ℕ) (report : RunReport)
    → s.ended ≡ o → s.directives ≡ ds → s.passed ≡ p → s.phase ≡ current → s.opened ≡ opened → s.tally ≡ t
    → DoesBy o ds p current opened t k z report → Does s k z report
same_does s o ds p current opened t k z report e1 e2 e3 e4 e5 e6 does = rw (e1, e2, e3, e4, e5, e6) does

stopped_does : (s : Standing) (stop : Stop) (k : ℕ) (z : List ℕ) (report : RunReport) → s.ended ≡ Some stop
    → report ≡ out_of stop.status stop.at s.tally → Does s k z report
stopped_does s stop k z report e is = subst (λ o. DoesBy o s.directives s.passed s.phase s.opened s.tally k z report) (sym e) is

-- ---- bytes that are taken

took : (k : ℕ) (ds : List Directive) (p : ℕ) (d : Directive) (q r : Stage) (t u : Tally) (b : ℕ) (z : List ℕ) → slice_get ds p ≡ Some d
    → stepped d q b ≡ Some r
    → u ≡ with_used (t.used + 1) t → run_from (Some k) (drop p ds) q (p + 1) t (b ∷ z) ≡ run_from (Some k) (drop p ds) r (p + 1) u z
took k ds p d q r t u b z at e is = rw (drop_at ds p d at, e, is) refl

passed_limit : (k : ℕ) (ds : List Directive) (p : ℕ) (d : Directive) (q r : Stage) (t : Tally) (b : ℕ) (z : List ℕ)
    → slice_get ds p ≡ Some d → stepped d q b ≡ Some r
    → t.used ≡ k → run_from (Some k) (drop p ds) q (p + 1) t (b ∷ z) ≡ out_of TooLong (p + 1) t
passed_limit k ds p d q r t b z at e full =
    let over : ltb k (one_from d r (t.used + 1) z).used ≡ true = lt-ltb _ _ (omega (arith, full, grows d r (t.used + 1) z)) in
    rw (drop_at ds p d at, e, over, ← full) refl

-- the text of an item that has begun
item_begun : (d : Directive) (slot : Option ℕ) (scan : ItemScan) (q : Stage) → ShowsItem d slot scan q
    → opened_slot (opened_for d q) ≡ slot
item_begun d slot scan q shows =
    ap (λ r. opened_slot (text_begun (text_slot d) (item_of d r))) shows.stage
    ∙ ap (λ v. opened_slot (text_begun (text_slot d) (text_taken v shows.item))) shows.plain
    ∙ some_begun (text_slot d) shows.item shows.begun ∙ shows.text

-- the phase has the slot of the text at each stage that it shows
pub shown_slot : (d : Directive) (p : Phase) (q : Stage) → Shows d p q → opened_slot (opened_for d q) ≡ slot_in p
shown_slot d phase.Skipping q shows =
    ap (λ r. opened_slot (text_begun (text_slot d) (item_of d r))) shows ∙ none_begun (text_slot d)
shown_slot d (phase.Item scan) q shows = item_begun d None scan q shows
shown_slot d (phase.Text slot scan) q shows = item_begun d (Some slot) scan q shows
shown_slot d (phase.Column slot scan) q shows = shows.text

begun_more : (slot : Option ℕ) (t g : List ℕ)
    → opened_with (opened_slot (text_begun slot (t ++ g))) g (text_begun slot t) ≡ text_begun slot (t ++ g)
begun_more None t g = refl
begun_more (Some n) [] [] = refl
begun_more (Some n) [] (b ∷ g) = refl
begun_more (Some n) (x ∷ t) g = refl

-- what was opened is that of the stage that the bytes of the item lead to
pub opened_grown : (d : Directive) (p : Phase) (q r : Stage) (g : List ℕ) (opened : Option Opened) → Shows d p r → GrowsBy d q g r
    → opened ≡ opened_for d q
    → opened_with (slot_in p) g opened ≡ opened_for d r
opened_grown d p q r g opened showing grown is =
    let slot : slot_in p ≡ opened_slot (text_begun (text_slot d) (item_of d q ++ g)) =
    sym (shown_slot d p r showing) ∙ ap (λ t. opened_slot (text_begun (text_slot d) t)) grown in
    ap (λ o. opened_with o g opened) slot
    ∙ ap (opened_with (opened_slot (text_begun (text_slot d) (item_of d q ++ g))) g) is
    ∙ begun_more (text_slot d) (item_of d q) g ∙ ap (text_begun (text_slot d)) (sym grown)

pub took_all : (k : ℕ) (ds : List Directive) (p : ℕ) (d : Directive) (q r : Stage) (t : Tally) (y z : List ℕ) → slice_get ds p ≡ Some d
    → stepped_all d q y ≡ Some r
    → run_from (Some k) (drop p ds) q (p + 1) t (y ++ z) ≡ run_from (Some k) (drop p ds) r (p + 1) (with_used (t.used + length y) t) z
took_all k ds p d q r t y z at e = rw (drop_at ds p d at, one_from-all d q r t.used y z e) refl

-- bytes were taken at once
pub takes_all_follows : (new old : Standing) (d : Directive) (n : ℕ) (y g : List ℕ) (p : Phase)
    → slice_get old.directives old.passed ≡ Some d → old.ended ≡ None → n ≡ length y
    → TakesAll new old p n (opened_with (slot_in p) g old.opened) → ((q : Stage) → Shows d old.phase q → Brings d q y g p) → (z : List ℕ)
    → Follows new old z (y ++ z)
takes_all_follows new old d n y g p at waits long takes brings z k report low high does =
    let own : DoesBy None old.directives old.passed old.phase old.opened old.tally k (y ++ z) report =
    waiting old k (y ++ z) report waits does in
    let here : Shows d old.phase own.0 × (old.opened ≡ opened_for d own.0) =
    subst (λ rest. ShowsFirst rest old.phase old.opened own.0) (drop_at old.directives old.passed d at) own.1 in
    let b = brings own.0 here.0 in
    same_does new None old.directives old.passed p (opened_with (slot_in p) g old.opened)
    (with_used (old.tally.used + length y) old.tally) k z report
    (takes.ended ∙ waits) takes.keeps.directives takes.passed takes.phase takes.opened
    (takes.tally ∙ ap (λ m. with_used (old.tally.used + m) old.tally) long) (
      b.stage,
      subst (λ rest. ShowsFirst rest p (opened_with (slot_in p) g old.opened) b.stage) (sym (drop_at old.directives old.passed d at))
          (b.shown, opened_grown d p own.0 b.stage g old.opened b.shown b.grown here.1),
      own.2 ∙ took_all k old.directives old.passed d own.0 b.stage old.tally y z at b.stepped,
    )

-- the directive under way has used up what it was handed of the piece, and waits for more
pub waits_follow : (new old : Standing) (d : Directive) (run : Run) (m : ℕ) (piece front item : List ℕ)
    → slice_get old.directives old.passed ≡ Some d → old.ended ≡ None → front ≡ take m piece → m ≤ length piece
    → run.before + run.item ≡ length front → item ≡ take run.item (drop run.before front)
    → TakesAll new old run.phase (run.before + run.item) (opened_with (slot_in run.phase) item old.opened)
    → ((q : Stage) → Shows d old.phase q → Brings d q front (take run.item (drop run.before front)) run.phase) → (z : List ℕ)
    → Follows new old (drop (run.before + run.item) piece ++ z) (piece ++ z)
waits_follow new old d run m piece front item at waits is within all own takes brings z =
    let long : length front ≡ m = ap length is ∙ length-take-le m piece within in
    let same : run.before + run.item ≡ m = omega (arith, long, all) in
    subst (λ n. Follows new old (drop n piece ++ z) (piece ++ z)) (sym same)
    (subst (λ y. Follows new old (drop m piece ++ z) y) (ap (λ (y : List ℕ). y ++ (drop m piece ++ z)) is ∙ parted piece m z)
    (takes_all_follows new old d (run.before + run.item) front item run.phase at waits all takes
    (λ q shows. subst (λ g. Brings d q front g run.phase) (sym own) (brings q shows)) (drop m piece ++ z)))

-- ---- the directive under way ends

-- The scanner's fields have come to where the directive under way has taken some bytes; its phase and its text may be any.
pub record Reaches (new old : Standing) : Type 0 where
  pub keeps : Keeps new old
  pub ended : new.ended ≡ old.ended
  pub passed : new.passed ≡ old.passed
  pub tally : new.tally ≡ with_used new.tally.used old.tally

pub reaches_taken : (new old : Standing) (p : Phase) (n : ℕ) (text : Option Opened) → TakesAll new old p n text → Reaches new old
reaches_taken new old p n text takes = record {
  keeps = takes.keeps;
  ended = takes.ended;
  passed = takes.passed;
  tally = takes.tally ∙ ap (λ m. with_used m old.tally) (sym (ap (λ (t : Tally). t.used) takes.tally));
}

-- the directive has passed
passes_follows : (new mid old : Standing) (d : Directive) (f : StepEnd) (y z : List ℕ) → slice_get old.directives old.passed ≡ Some d
    → old.ended ≡ None → Reaches mid old → Passed new mid d f
    → ((status : Status) → f ≡ Fails status → ⊥)
    → ((q : Stage) → Shows d old.phase q → old.opened ≡ opened_for d q
    → one_from d q old.tally.used y ≡ record { used = mid.tally.used; left = z; end = f }) → Follows new old z y
passes_follows new mid old d f y z at waits here passes ok takes k report low high does =
    let u : new.tally.used ≡ mid.tally.used = ap (λ (t : Tally). t.used) passes.tally ∙ counted-used d f mid.tally in
    same_does new None old.directives (passed_with old.directives old.passed d f) phase.Skipping None (counted d f mid.tally) k z report
    (passes.ended ∙ here.ended ∙ waits) (passes.keeps.directives ∙ here.keeps.directives)
    (passes.passed ∙ ap₂ (λ l n. passed_with l n d f) here.keeps.directives here.passed) passes.phase passes.opened passes.tally
    (close_passes old.directives old.passed d at old.phase old.opened old.tally k y report
    (waiting old k y report waits does) mid.tally z f (omega (arith, low, u)) here.tally takes ok)

-- the directive has failed
fails_follows : (new mid old : Standing) (d : Directive) (status : Status) (y z : List ℕ) → slice_get old.directives old.passed ≡ Some d
    → old.ended ≡ None → Reaches mid old
    → Stops new mid (record { status = status; at = mid.passed + 1 })
    → ((q : Stage) → Shows d old.phase q → old.opened ≡ opened_for d q
    → one_from d q old.tally.used y ≡ record { used = mid.tally.used; left = z; end = Fails status })
    → Follows new old z y
fails_follows new mid old d status y z at waits here stops takes k report low high does =
    let u : new.tally.used ≡ mid.tally.used = ap (λ (t : Tally). t.used) stops.tally in
    stopped_does new (record { status = status; at = mid.passed + 1 }) k z report stops.ended
    (close_fails old.directives old.passed d at old.phase old.opened old.tally k y report (waiting old k y report waits does) mid.tally z
    (Fails status) (omega (arith, low, u)) here.tally takes status refl
    ∙ ap (λ n. out_of status (n + 1) mid.tally) (sym here.passed) ∙ ap (out_of status (mid.passed + 1)) (sym stops.tally))

-- the directive has ended after some bytes, as it does on y
pub ends_follows : (new mid old : Standing) (d : Directive) (f : StepEnd) (y z : List ℕ) → slice_get old.directives old.passed ≡ Some d
    → old.ended ≡ None → Reaches mid old → Ends new mid d f
    → ((q : Stage) → Shows d old.phase q → old.opened ≡ opened_for d q
    → one_from d q old.tally.used y ≡ record { used = mid.tally.used; left = z; end = f }) → Follows new old z y
ends_follows new mid old d Passes y z at waits here ends takes =
    passes_follows new mid old d Passes y z at waits here ends (λ status e. cc) takes
ends_follows new mid old d (Stores slot v) y z at waits here ends takes =
    passes_follows new mid old d (Stores slot v) y z at waits here ends (λ status e. cc) takes
ends_follows new mid old d Misses y z at waits here ends takes =
    passes_follows new mid old d Misses y z at waits here ends (λ status e. cc) takes
ends_follows new mid old d (Fails status) y z at waits here ends takes = fails_follows new mid old d status y z at waits here ends takes

-- where nothing follows
pub last_follows : (new old : Standing) (d : Directive) (f : StepEnd) → slice_get old.directives old.passed ≡ Some d → old.ended ≡ None
    → Ends new old d f
    → ((q : Stage) → Shows d old.phase q → old.opened ≡ opened_for d q → f ≡ finished d q old.tally.used false)
    → Follows new old [] []
last_follows new old d f at waits ends is =
    ends_follows new old old d f [] [] at waits (record {
      keeps =
          record { directives = refl; limit = refl; met = refl; capacity = omega arith; room = omega arith };
      ended = refl;
      passed = refl;
      tally = refl;
    }) ends
    (λ q shows opened. ap (λ (e : StepEnd). record { used = old.tally.used; left = []; end = e }) (sym (is q shows opened)))

-- what closes the text under way closes the whole item
-- how a directive ends that closes no text, whichever is under way
same_end : (t u : List ℕ) (end : Finished) → slot_closed end ≡ None → end_of t end ≡ end_of u end
same_end t u end none = grind arith

failing_end : (t u : List ℕ) (end : Finished) → is_failing end ≡ true → end_of t end ≡ end_of u end
failing_end t u end fails = grind arith

unclosed_end : (d : Directive) (p : Phase) (t u : List ℕ) (end : Finished) → slot_in p ≡ None → IsEnd d p end
    → end_of t end ≡ end_of u end
unclosed_end d p t u end none own = by (is_failing end) refl
  where
    by : (v : Bool) → is_failing end ≡ v → end_of t end ≡ end_of u end
    by true fails = failing_end t u end fails
    by false ok = same_end t u end (sym (own.text ok) ∙ none)

-- the text under way, with the bytes that it is given, is that of the directive
next_text : (text current new : Option ℕ) (t g : List ℕ) (n : ℕ) → new ≡ Some n → IsNextSlot text current new
    → opened_slot (text_begun text t) ≡ current → text_of (opened_with new g (text_begun text t)) ≡ t ++ g
next_text text current (Some n) [] g m is next slot = begun_text text
  where
    begun_text : (o : Option ℕ) → text_of (opened_with (Some n) g (text_begun o [])) ≡ g
    begun_text None = refl
    begun_text (Some k) = refl
next_text None None (Some n) (b ∷ t) g m is next slot = absurd cc
next_text None (Some k) (Some n) (b ∷ t) g m is next slot = absurd cc
next_text (Some k) current (Some n) (b ∷ t) g m is next slot = refl
next_text text current None t g m is next slot = absurd cc

pub closed_text : (d : Directive) (current new : Phase) (q : Stage) (opened : Option Opened) (g : List ℕ) (end : Finished)
    → Shows d current q → opened ≡ opened_for d q
    → IsNextSlot (text_slot d) (slot_in current) (slot_in new) → IsEnd d new end
    → end_of (closing_text d (text_of (opened_with (slot_in new) g opened))) end ≡ end_of (closing_text d (item_of d q ++ g)) end
closed_text d current new q opened g end shows is next own = by (slot_in new) refl
  where
    by : (o : Option ℕ) → slot_in new ≡ o
        → end_of (closing_text d (text_of (opened_with (slot_in new) g opened))) end ≡ end_of (closing_text d (item_of d q ++ g)) end
    by None e = unclosed_end d new _ _ end e own
    by (Some n) e = ap (λ t. end_of (closing_text d t) end) (ap (λ o. text_of (opened_with (slot_in new) g o)) is
        ∙ next_text (text_slot d) (slot_in current) (slot_in new) (item_of d q) g n e next (shown_slot d current q shows))

-- the directive under way has ended within the piece
pub answer_follows : (new mid old : Standing) (d : Directive) (run : Run) (end : Finished) (front : List ℕ) (y z : List ℕ)
    → slice_get old.directives old.passed ≡ Some d → old.ended ≡ None
    → TakesAll mid old run.phase (run.before + run.item) (opened_with (slot_in run.phase)
    (take run.item (drop run.before front)) old.opened) → Ends new mid d (end_of (closing_text d (text_of mid.opened)) end)
    → IsNextSlot (text_slot d) (slot_in old.phase) (slot_in run.phase) → IsEnd d run.phase end
    → ((q : Stage) → Shows d old.phase q
    → one_from d q old.tally.used y ≡ record {
      used = old.tally.used + (run.before + run.item);
      left = z;
      end =
          end_of (closing_text d (item_of d q ++ take run.item (drop run.before front))) end;
    })
    → Follows new old z y
answer_follows new mid old d run end front y z at waits takes ends next own parts =
    ends_follows new mid old d (end_of (closing_text d (text_of mid.opened)) end) y z at waits
    (reaches_taken mid old run.phase _ _ takes) ends
    (λ q shows is. parts q shows ∙ same_part (sym (ap (λ (t : Tally). t.used) takes.tally)) refl
    (sym (ap (λ o. end_of (closing_text d (text_of o)) end) takes.opened ∙ closed_text d old.phase run.phase q old.opened
    (take run.item (drop run.before front)) end shows is next own)))

-- ---- the limit, and memory that is refused

-- at the limit the directive under way would take more
pub limit_follows : (new old : Standing) (d : Directive) → slice_get old.directives old.passed ≡ Some d → old.ended ≡ None
    → Stops new old (record { status = TooLong; at = old.passed + 1 }) → old.tally.used ≡ old.limit → (y : List ℕ)
    → ((q : Stage) → Shows d old.phase q → old.tally.used < (one_from d q old.tally.used y).used) → Follows new old y y
limit_follows new old d at waits stops full y more k report low high does =
    let u : new.tally.used ≡ old.tally.used = ap (λ (t : Tally). t.used) stops.tally in
    let same : k ≡ old.tally.used = omega (arith, low, high, full, u) in
    stopped_does new (record { status = TooLong; at = old.passed + 1 }) k y report stops.ended
    (too_long old.directives old.passed d at old.phase old.opened old.tally k y report (waiting old k y report waits does)
    (λ q shows. let h = more q shows in omega (arith, same, h))
    ∙ ap (λ m. out_of TooLong (old.passed + 1) (with_used m old.tally)) same ∙ ap (out_of TooLong (old.passed + 1)) (sym stops.tally))

-- every directive has passed
pub done_follows : (new old : Standing) → slice_get old.directives old.passed ≡ None → old.ended ≡ None
    → Stops new old (record { status = Done; at = 0 }) → (z : List ℕ) → Follows new old z z
done_follows new old at waits stops z k report low high does =
    stopped_does new (record { status = Done; at = 0 }) k z report stops.ended
    (conclude_same old.directives old.passed old.phase old.opened old.tally k z report at (waiting old k z report waits does)
    ∙ ap (out_of Done 0) (sym stops.tally))

-- ---- counting a directive that passed

-- a value that is stored takes one of the places
pub place_taken : (ds : List Directive) (p : ℕ) (d : Directive) (v : Bool) → slice_get ds p ≡ Some d → (v ≡ true → is_destination d ≡ true)
    → cond v 1 0 + places_left ds (p + 1) ≤ places_left ds p
place_taken ds p d v at some = grind (arith, places_next)

pub one_more : (v : Bool) (n : ℕ) → cond v (n + 1) n ≡ n + cond v 1 0
one_more v n = grind arith

-- ---- counting the directives that may still end

-- ---- one move after another

pub follows_on : (old mid new : Standing) (x y z : List ℕ) → mid.tally.used ≤ new.tally.used → mid.limit ≡ old.limit → Follows mid old y z
    → Follows new mid x y
    → Follows new old x z
follows_on old mid new x y z more same first second = grind arith

-- one that is refused after others
pub refuses_on : (old mid new : Standing) (at : ℕ) (d : Directive) (b : ℕ) (y z : List ℕ) → mid.tally.used ≤ new.tally.used
    → new.limit ≡ old.limit → Follows mid old y z → Refuses new mid at d b y → Refuses new old at d b z
refuses_on old mid new at d b y z more same first r = record {
  under_way = r.under_way;
  ended = r.ended;
  below = r.below;
  cut = λ report does. (let low = r.below in r.cut report (first new.tally.used report more (omega (arith, low, same)) does));
}

-- of no byte none is refused
pub none_refused : (new old : Standing) (xs : List ℕ) → length xs ≡ 0 → (is_no_memory new.ended ≡ true → RefusesIn new old xs)
    → is_no_memory new.ended ≡ false
none_refused new old xs none h = grind (arith, length-append)

-- an ended one does the same whatever follows
pub ended_does : (s : Standing) (k : ℕ) (y z : List ℕ) (report : RunReport) → IsSome s.ended → Does s k y report → Does s k z report
ended_does s k y z report ended does = by_case s.ended ended does
  where
    by_case : (o : Option Stop) → IsSome o → DoesBy o s.directives s.passed s.phase s.opened s.tally k y report
        → DoesBy o s.directives s.passed s.phase s.opened s.tally k z report
    by_case o h does = grind arith

pub if_none : {A : Type 0} (o : Option A) (P : Type 0) → P → IfNone o P
if_none o P p = grind arith

-- a directive that takes a byte has used one more, if nothing follows
pub byte_took : (k : ℕ) (ds : List Directive) (p : ℕ) (d : Directive) (q r : Stage) (t : Tally) (b : ℕ) → slice_get ds p ≡ Some d
    → stepped d q b ≡ Some r
    → run_from (Some k) (drop p ds) q (p + 1) t (b ∷ []) ≡ run_from (Some k) (drop p ds) r (p + 1) (with_used (t.used + 1) t) []
byte_took k ds p d q r t b at e = took k ds p d q r t (with_used (t.used + 1) t) b [] at e refl

pub byte_past : (k : ℕ) (ds : List Directive) (p : ℕ) (d : Directive) (q r : Stage) (t : Tally) (b : ℕ) → slice_get ds p ≡ Some d
    → stepped d q b ≡ Some r
    → t.used ≡ k → run_from (Some k) (drop p ds) q (p + 1) t (b ∷ []) ≡ out_of TooLong (p + 1) t
byte_past k ds p d q r t b at e full = passed_limit k ds p d q r t b [] at e full

pub not_out : (o : Option Stop) → is_some o ≡ false → is_no_memory o ≡ false
not_out o e = grind arith

pub waits_for : (o : Option Stop) → (IsSome o → ⊥) → o ≡ None
waits_for o never = grind arith
