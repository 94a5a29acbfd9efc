-- How far a run has come with the bytes that it consumed.
use Rattle.std.proofs.Common.{◌≡◌, ℕ, suc, ◌+◌, ◌≤◌, Bool, true, false, cond, ◌&&◌, List, [], ◌∷◌, ◌++◌, length, take, drop, append_assoc}
use Rattle.std.proofs.Common.{not, append-nil, length-append, length-drop, Option, Some, None, refl, sym, ap, ap₂, subst, ◌∙◌, arith}
use Rattle.std.proofs.Common.{is_some, map}
use Rattle.std.proofs.Common.{true≢false}
use Rattle.std.specs.Prelude.{IsSome, slice_get}
use Rattle.std.proofs.lemmas.List.{drop-append-le, drop-drop, drop_all, length-take-le, take-append-drop, take_all}
use Rattle.std.proofs.lemmas.List.Sums.{sum_by-append, sum_by-cons}
use Rattle.std.proofs.Math.Seq.{take-add}
use Rattle.sf_base.specs.Bytes.{is_white}
use Rattle.sf_base.specs.stores.Kept.{Opened, text_of}
use Rattle.sf_format.specs.declared.directive.Lead.{Lead}
use Rattle.sf_format.specs.declared.directive.Lead.TheVariants.{Any, Minus, Nothing}
use Rattle.sf_format.specs.declared.directive.Shape.{Shape}
use Rattle.sf_format.specs.Leads.{is_strict_lead}
use Rattle.sf_format.specs.declared.directive.Conversion.{Conversion}
use Rattle.sf_format.specs.declared.directive.Directive.{Directive}
use Rattle.sf_format.specs.declared.directive.Directive.TheVariants.{Space, Byte, Percent, Conv, Opens}
use Rattle.sf_format.specs.Proper.{AreProper}
use Rattle.sf_item.specs.Tests.{can_take}
use Rattle.sf_run.specs.declared.directive.Finished.{Finished}
use Rattle.sf_run.specs.declared.directive.Phase.{Phase}
use Rattle.sf_run.specs.declared.directive.Run.{Run}
use Rattle.sf_run.specs.declared.directive.Phase.TheVariants as phase
use Rattle.sf_report.specs.declared.outcome.Status.{Status}
use Rattle.sf_report.specs.Steps.{StepEnd, Fails, Passes, Stores, Misses}
use Rattle.sf_report.specs.Runs.{Ran, left_out, over, bytes_used}
use Rattle.sf_report.specs.Limits.{IsCut}
use Rattle.sf_report.specs.Machine.{Stage, Skipping, Item, item_stepped, shape_skips}
use Rattle.sf_report.specs.Computed.{go_on, part_of, ran_of, ran_past, skip, skip_under, skip_before, step_of}
use Rattle.sf_report.specs.Residual.{Part, Tally, choose, one_from, stepped_all}
use Rattle.sf_run.specs.Phases.{Brings, Shows, end_of, slot_in, stage_of}
use Rattle.sf_run.specs.Pieces.{IsEnd}
use Rattle.sf_run.specs.Standing.{Advances, Comes, ComesBy, Ends, IsTextBy, IsTextUnderWay, IsUnderWay, LedFirst, ShowsFirst, Standing}
use Rattle.sf_run.specs.Standing.{TakesAll, text_begun}
use Rattle.sf_run.specs.Standing.{Passes as Passed, passed_with}
use Rattle.sf_run.specs.Texts.{IsNextSlot, closing_text, item_of, opened_for, opened_with, text_slot}
use Rattle.sf_report.proofs.Joined.{all-append, one_from-all}
use Rattle.sf_report.proofs.Machines.{some_is}
use Rattle.sf_report.proofs.Ones.{one_made}
use Rattle.sf_report.proofs.Openness.{counted-used}
use Rattle.sf_report.proofs.RunLaws.{ran_at, steps_only}
use Rattle.sf_report.proofs.StepLaws.{skip_before_is}
use Rattle.sf_run.proofs.Columns.{column_item, column_stage, stepped_plain}
use Rattle.sf_run.proofs.Groups.{as_many, drop_at, others, place_is, ran_from, used_nothing}
use Rattle.sf_run.proofs.Moves.{Reaches, closed_text, opened_grown, reaches_taken, shows_fresh}
use Rattle.sf_run.proofs.Pieces.{parted, same_part}

-- what has come so far, by the fields
same_comes : (s : Standing) (ds : List Directive) (p : ℕ) (current : Phase) (opened : Option Opened) (n : ℕ) (x y : List ℕ)
    → s.directives ≡ ds → s.passed ≡ p → s.phase ≡ current → s.opened ≡ opened → s.tally.used ≡ n → ComesBy ds p current opened n x y
    → Comes s x y
same_comes s ds p current opened n x y e1 e2 e3 e4 e5 h = rw (e1, e2, e3, e4, e5) h

-- ---- the first byte

led_fresh : (ds : List Directive) → LedFirst ds [] Skipping
led_fresh [] = tt
led_fresh (d ∷ ds) = refl

comes_first : (ds : List Directive) → ComesBy ds 0 phase.Skipping None 0 [] []
comes_first ds = record {
  before = [];
  stage = Skipping;
  count = refl;
  consumed_is = refl;
  within = omega arith;
  steps = λ z. refl;
  shown = shows_fresh ds;
  led = led_fresh ds;
}

pub first_comes : (ds : List Directive) (opened : Option Opened) (n : ℕ) → opened ≡ None → n ≡ 0
    → ComesBy ds 0 phase.Skipping opened n [] []
first_comes ds opened n none nothing = rw (none, nothing) (comes_first ds)

-- ---- bytes that follow

pub comes_on : (s : Standing) (x y : List ℕ) → Comes s x [] → Comes s x y
comes_on s x y h = record {
  before = h.before;
  stage = h.stage;
  count = h.count;
  consumed_is = h.consumed_is;
  within = h.within;
  steps = λ z. h.steps (y ++ z);
  shown = h.shown;
  led = h.led;
}

-- ---- bytes that are taken

module _ (ds : List Directive) (p : ℕ) (d : Directive) (at : slice_get ds p ≡ Some d) (current : Phase) (opened : Option Opened) (n : ℕ)
    (x y : List ℕ)
    (h : ComesBy ds p current opened n x y) where
  -- the bytes that the directive under way has consumed
  abbrev left : List ℕ
  left = drop (bytes_used h.before) x

  pub showing : Shows d current h.stage × (opened ≡ opened_for d h.stage)
  showing = subst (λ rest. ShowsFirst rest current opened h.stage) (drop_at ds p d at) h.shown

  pub leading : stepped_all d Skipping left ≡ Some h.stage
  leading = subst (λ rest. LedFirst rest left h.stage) (drop_at ds p d at) h.led

  size : bytes_used h.before + length left ≡ n
  size = let w = h.within in let c = h.consumed_is in omega (arith, w, c, length-drop (bytes_used h.before) x)

  -- it goes on with all of these bytes
  pub goes_on : (front g rest : List ℕ) (next : Phase) → y ≡ front ++ rest → ((q : Stage) → Shows d current q → Brings d q front g next)
      → ComesBy ds p next (opened_with (slot_in next) g opened) (n + length front) (x ++ front) rest
  goes_on front g rest next whole brings =
      let b = brings h.stage showing.0 in
      let on : drop (bytes_used h.before) (x ++ front) ≡ left ++ front = drop-append-le (bytes_used h.before) x front h.within in
      record {
        before = h.before;
        stage = b.stage;
        count = h.count;
        consumed_is = (let c = h.consumed_is in omega (arith, c, length-append x front));
        within = (let w = h.within in omega (arith, w, length-append x front));
        steps = λ z.
            ap (λ (l : List ℕ). ran_of ds l 0) (append_assoc x front (rest ++ z)
            ∙ ap (λ l. x ++ l) (sym (append_assoc front rest z) ∙ ap (λ l. l ++ z) (sym whole)))
            ∙ h.steps z
            ∙ ap (λ (l : List ℕ). h.before ++ ran_of (drop p ds) l (bytes_used h.before))
            (ap (λ l. left ++ l) (ap (λ l. l ++ z) whole ∙ append_assoc front rest z) ∙ sym (append_assoc left front (rest ++ z))
            ∙ ap (λ l. l ++ (rest ++ z)) (sym on));
        shown = subst (λ rest. ShowsFirst rest next (opened_with (slot_in next) g opened) b.stage) (sym (drop_at ds p d at))
            (b.shown, opened_grown d next h.stage b.stage g opened b.shown b.grown showing.1);
        led = subst (λ rest. LedFirst rest (drop (bytes_used h.before) (x ++ front)) b.stage) (sym (drop_at ds p d at))
            (ap (stepped_all d Skipping) on ∙ all-append d Skipping h.stage left front leading ∙ b.stepped);
      }

-- ---- a directive that passes

go_ok : (f : StepEnd) (rest : List Ran) → ((status : Status) → f ≡ Fails status → ⊥) → go_on f rest ≡ rest
go_ok Passes rest ok = refl
go_ok (Stores slot v) rest ok = refl
go_ok Misses rest ok = refl
go_ok (Fails status) rest ok = absurd (ok status refl)

abbrev ran_one : Directive → ℕ → StepEnd → Ran
ran_one d k f = record { directive = d; bytes = k; end = f }

by_parts : (d : Directive) (ds : List Directive) (r : ℕ × StepEnd) (w l : List ℕ) (u k : ℕ) (f : StepEnd) → r.0 ≡ k → drop r.0 w ≡ l
    → r.1 ≡ f
    → ran_one d r.0 r.1 ∷ go_on r.1 (ran_past (over d r.1) ds (drop r.0 w) (u + r.0))
    ≡ ran_one d k f ∷ go_on f (ran_past (over d f) ds l (u + k))
by_parts d ds r w l u k f size rest end =
    ap (λ (y : List ℕ). ran_one d r.0 r.1 ∷ go_on r.1 (ran_past (over d r.1) ds y (u + r.0))) rest
    ∙ ap₂ (λ (n : ℕ) (e : StepEnd). ran_one d n e ∷ go_on e (ran_past (over d e) ds l (u + n))) size end

-- the step that the machine makes
made_step : (d : Directive) (ds : List Directive) (w l : List ℕ) (u k : ℕ) (f : StepEnd)
    → one_from d Skipping u w ≡ record { used = u + k; left = l; end = f }
    → ran_of (d ∷ ds) w u ≡ ran_one d k f ∷ go_on f (ran_past (over d f) ds l (u + k))
made_step d ds w l u k f is =
    let same : part_of u w (step_of d w u) ≡ record { used = u + k; left = l; end = f } = sym (one_made d w u) ∙ is in
    let bytes : u + (step_of d w u).0 ≡ u + k = ap (λ (p : Part). p.used) same in
    by_parts d ds (step_of d w u) w l u k f (omega (arith, bytes)) (ap (λ (p : Part). p.left) same) (ap (λ (p : Part). p.end) same)

pub passes_on : (ds : List Directive) (p : ℕ) (d : Directive) → slice_get ds p ≡ Some d
    → (current : Phase) (opened : Option Opened) (n : ℕ) (x y : List ℕ)
    → ComesBy ds p current opened n x y → (k : ℕ) (f : StepEnd) → ((status : Status) → f ≡ Fails status → ⊥) → k ≤ length y
    → ((q : Stage) → Shows d current q → opened ≡ opened_for d q → (z : List ℕ)
    → one_from d q n (y ++ z) ≡ record { used = n + k; left = drop k y ++ z; end = f })
    → ComesBy ds (passed_with ds p d f) phase.Skipping None (n + k) (x ++ take k y) (drop k y)
passes_on ds p d at current opened n x y h k f ok within takes = record {
  before = h.before ++ ends;
  stage = Skipping;
  count = (let c = h.count in
      omega (arith, c, place_is ds p d at f, as_many (others ds p d at f), length-append h.before ends));
  consumed_is = whole;
  within = (let a = all in let w = whole in omega (arith, a, w));
  steps = λ z.
      ap (λ (l : List ℕ). ran_of ds l 0) (append_assoc x (take k y) (drop k y ++ z) ∙ ap (λ l. x ++ l) (parted y k z))
      ∙ h.steps z
      ∙ ap (λ (rest : List Directive). h.before ++ ran_of rest (bytes ++ (y ++ z)) (bytes_used h.before)) (drop_at ds p d at)
      ∙ ap (λ (l : List Ran). h.before ++ l) (made_step d (drop (p + 1) ds) (bytes ++ (y ++ z)) (drop k y ++ z) (bytes_used h.before)
      (length bytes + k) f (step z)
      ∙ ap (λ (l : List Ran). own ∷ l) (go_ok f _ ok ∙ ran_from ds p d at f (drop k y ++ z) (bytes_used h.before + (length bytes + k))))
      ∙ sym (append_assoc h.before ends (ran_of (drop q ds) (drop k y ++ z) (bytes_used h.before + (length bytes + k))))
      ∙ ap₂ (λ (l : List ℕ) (m : ℕ). (h.before ++ ends) ++ ran_of (drop q ds) (l ++ (drop k y ++ z)) m) (sym nothing)
      (let a = all in let s = bytes_size in omega (arith, a, s));
  shown = shows_fresh (drop q ds);
  led = subst (λ l. LedFirst (drop q ds) l Skipping) (sym nothing) (led_fresh (drop q ds));
}
  where
    q : ℕ
    q = passed_with ds p d f

    bytes : List ℕ
    bytes = left ds p d at current opened n x y h

    bytes_size : bytes_used h.before + length bytes ≡ n
    bytes_size = size ds p d at current opened n x y h

    own : Ran
    own = ran_one d (length bytes + k) f

    -- the directive, and those that are missing with it
    ends : List Ran
    ends = own ∷ map left_out (others ds p d at f)

    ends_used : bytes_used ends ≡ length bytes + k
    ends_used =
        let all = sum_by-cons (λ (r : Ran). r.bytes) own (map left_out (others ds p d at f)) in
        omega (arith, all, used_nothing (others ds p d at f))

    all : bytes_used (h.before ++ ends) ≡ n + k
    all = (let s = bytes_size in omega (arith, s, ends_used, sum_by-append (λ (r : Ran). r.bytes) h.before ends))

    whole : n + k ≡ length (x ++ take k y)
    whole = (let c = h.consumed_is in omega (arith, c, length-append x (take k y), length-take-le k y within))

    nothing : drop (bytes_used (h.before ++ ends)) (x ++ take k y) ≡ []
    nothing = drop_all (bytes_used (h.before ++ ends)) (x ++ take k y) (let a = all in let w = whole in omega (arith, a, w))

    step : (z : List ℕ) → one_from d Skipping (bytes_used h.before) (bytes ++ (y ++ z))
        ≡ record { used = bytes_used h.before + (length bytes + k); left = drop k y ++ z; end = f }
    step z =
        let shows = showing ds p d at current opened n x y h in
        one_from-all d Skipping h.stage (bytes_used h.before) bytes (y ++ z) (leading ds p d at current opened n x y h)
        ∙ ap (λ m. one_from d h.stage m (y ++ z)) bytes_size
        ∙ takes h.stage shows.0 shows.1 z
        ∙ ap (λ m. record { used = m; left = drop k y ++ z; end = f }) (let s = bytes_size in omega (arith, s))

-- ---- moves

-- the directive under way has used up what it was handed, and waits for more
pub waits_advance : (new old : Standing) (d : Directive) (run : Run) (m : ℕ) (piece front item : List ℕ)
    → slice_get old.directives old.passed ≡ Some d → old.ended ≡ None → front ≡ take m piece → m ≤ length piece
    → run.before + run.item ≡ length front → item ≡ take run.item (drop run.before front)
    → TakesAll new old run.phase (run.before + run.item) (opened_with (slot_in run.phase) item old.opened)
    → ((q : Stage) → Shows d old.phase q → Brings d q front (take run.item (drop run.before front)) run.phase)
    → Advances new old piece (run.before + run.item)
unfolding Advances
waits_advance new old d run m piece front item at waits is within all own takes brings x h still =
    let n : ℕ = run.before + run.item in
    let long : length front ≡ m = ap length is ∙ length-take-le m piece within in
    let same : n ≡ m = omega (arith, long, all) in
    let whole : piece ≡ front ++ drop m piece = sym (ap (λ l. l ++ drop m piece) is ∙ take-append-drop m piece) in
    let goes = goes_on old.directives old.passed d at old.phase old.opened old.tally.used x piece h front item
    (drop m piece) run.phase whole
    (λ q shows. subst (λ g. Brings d q front g run.phase) (sym own) (brings q shows)) in
    let there : Comes new (x ++ front) (drop m piece) = same_comes new old.directives old.passed run.phase
    (opened_with (slot_in run.phase) item old.opened) (old.tally.used + length front) (x ++ front) (drop m piece)
    takes.keeps.directives takes.passed takes.phase takes.opened (ap (λ (t : Tally). t.used) takes.tally
    ∙ ap (λ k. old.tally.used + k) all) goes in
    subst (λ k. Comes new (x ++ take k piece) (drop k piece)) (sym same) (subst (λ l. Comes new (x ++ l) (drop m piece)) is there)

-- the directive under way has ended
ends_advance : (new mid old : Standing) (d : Directive) (f : StepEnd) (y : List ℕ) (n : ℕ) → slice_get old.directives old.passed ≡ Some d
    → Reaches mid old → mid.tally.used ≡ old.tally.used + n → Ends new mid d f
    → n ≤ length y
    → ((q : Stage) → Shows d old.phase q → old.opened ≡ opened_for d q → (z : List ℕ)
    → one_from d q old.tally.used (y ++ z) ≡ record { used = old.tally.used + n; left = drop n y ++ z; end = f })
    → Advances new old y n
unfolding Advances
ends_advance new mid old d f y n at here used ends within takes x h still = by f ends takes
  where
    passes : (g : StepEnd) → ((status : Status) → g ≡ Fails status → ⊥) → Passed new mid d g
        → ((q : Stage) → Shows d old.phase q → old.opened ≡ opened_for d q → (z : List ℕ)
        → one_from d q old.tally.used (y ++ z) ≡ record { used = old.tally.used + n; left = drop n y ++ z; end = g })
        → Comes new (x ++ take n y) (drop n y)
    passes g ok passed takes =
        same_comes new old.directives (passed_with old.directives old.passed d g) phase.Skipping None (old.tally.used + n) (x ++ take n y)
        (drop n y) (passed.keeps.directives ∙ here.keeps.directives)
        (passed.passed ∙ ap₂ (λ l p. passed_with l p d g) here.keeps.directives here.passed) passed.phase passed.opened
        (ap (λ (t : Tally). t.used) passed.tally ∙ counted-used d g mid.tally ∙ used)
        (passes_on old.directives old.passed d at old.phase old.opened old.tally.used x y h n g ok within takes)

    by : (g : StepEnd) → Ends new mid d g
        → ((q : Stage) → Shows d old.phase q → old.opened ≡ opened_for d q → (z : List ℕ)
        → one_from d q old.tally.used (y ++ z) ≡ record { used = old.tally.used + n; left = drop n y ++ z; end = g })
        → Comes new (x ++ take n y) (drop n y)
    by Passes ends takes = passes Passes (λ status e. cc) ends takes
    by (Stores slot v) ends takes = passes (Stores slot v) (λ status e. cc) ends takes
    by Misses ends takes = passes Misses (λ status e. cc) ends takes
    by (Fails status) ends takes = let stopped = ends.ended in absurd cc

pub answer_advances : (new mid old : Standing) (d : Directive) (run : Run) (end : Finished) (front y : List ℕ)
    → slice_get old.directives old.passed ≡ Some d
    → TakesAll mid old run.phase (run.before + run.item) (opened_with (slot_in run.phase)
    (take run.item (drop run.before front)) old.opened) → Ends new mid d (end_of (closing_text d (text_of mid.opened)) end)
    → IsNextSlot (text_slot d) (slot_in old.phase) (slot_in run.phase) → IsEnd d run.phase end → run.before + run.item ≤ length y
    → ((q : Stage) → Shows d old.phase q → (z : List ℕ)
    → one_from d q old.tally.used (y ++ z) ≡ record {
      used = old.tally.used + (run.before + run.item);
      left =
          drop (run.before + run.item) y ++ z;
      end = end_of (closing_text d (item_of d q ++ take run.item (drop run.before front))) end;
    })
    → Advances new old y (run.before + run.item)
answer_advances new mid old d run end front y at takes ends next own within parts =
    ends_advance new mid old d (end_of (closing_text d (text_of mid.opened)) end) y (run.before + run.item) at (reaches_taken mid old
    run.phase _ _ takes)
    (ap (λ (t : Tally). t.used) takes.tally) ends within
    (λ q shows is z. parts q shows z ∙ same_part refl refl
    (sym (ap (λ o. end_of (closing_text d (text_of o)) end) takes.opened ∙ closed_text d old.phase run.phase q old.opened
    (take run.item (drop run.before front)) end shows is next own)))

-- no byte was taken yet
pub stays_put : (s : Standing) (y : List ℕ) → Advances s s y 0
unfolding Advances
stays_put s y x h still = subst (λ l. Comes s l y) (sym (append-nil x)) h

-- it has ended
pub ended_advances : (new old : Standing) (y : List ℕ) (n : ℕ) → IsSome new.ended → Advances new old y n
unfolding Advances
ended_advances new old y n ended x h still = absurd (true≢false (sym ended ∙ ap is_some still))

-- it has come so far, where all of the piece was taken
pub came : (new old : Standing) (x y : List ℕ) (n : ℕ) → Advances new old y n → n ≡ length y → Comes old x [] → new.ended ≡ None
    → Comes new (x ++ y) []
unfolding Advances
came new old x y n advances whole here still =
    subst (λ l. Comes new (x ++ l) []) (take_all n y (omega (arith, whole)))
    (subst (λ l. Comes new (x ++ take n y) l) (drop_all n y (omega (arith, whole))) (advances x (comes_on old x y here) still))

-- one move after another
pub advances_on : (old mid new : Standing) (y : List ℕ) (n k : ℕ) → mid.ended ≡ None → Advances mid old y n → Advances new mid (drop n y) k
    → Advances new old y (n + k)
unfolding Advances
advances_on old mid new y n k waits first second x h still =
    let there : Comes new ((x ++ take n y) ++ take k (drop n y)) (drop k (drop n y)) = second (x ++ take n y) (first x h waits) still in
    subst (λ l. Comes new l (drop (n + k) y)) (append_assoc x (take n y) (take k (drop n y)) ∙ ap (λ l. x ++ l) (sym (take-add n k y)))
    (subst (λ l. Comes new ((x ++ take n y) ++ take k (drop n y)) l) (drop-drop k n y) there)

-- ---- the text under way

abbrev skip_if : Bool → List ℕ → ℕ
skip_if v y = cond v (skip y) 0

under_is_if : (lead : Lead) (y : List ℕ) → skip_under lead y ≡ skip_if (not (is_strict_lead lead)) y
under_is_if Any y = refl
under_is_if Minus y = refl
under_is_if Nothing y = refl

skip_is_if : (shape : Shape) (y : List ℕ) → skip_before shape y ≡ skip_if (shape_skips shape) y
skip_is_if shape y = grind (arith, under_is_if)

item_stage : (c : Conversion) → c.column ≡ false → (f y : List ℕ) (q : Stage) → stepped_all (Conv c) (Item f) y ≡ Some q
    → q ≡ Item (f ++ y)
item_stage c plain f [] q e = let same : Item f ≡ q = cc in sym same ∙ ap Item (sym (append-nil f))
item_stage c plain f (b ∷ y) q e =
    by (can_take c (f ++ b ∷ [])) (ap (λ (o : Option Stage). choose o None (λ r. stepped_all (Conv c) r y))
    (sym (stepped_plain c plain (Item f) b)) ∙ e)
    (λ more. item_stage c plain (f ++ b ∷ []) y q more ∙ ap Item (append_assoc f (b ∷ []) y))
  where
    by : (v : Bool) → choose (cond v (Some (Item (f ++ b ∷ []))) None) None (λ r. stepped_all (Conv c) r y) ≡ Some q
        → (stepped_all (Conv c) (Item (f ++ b ∷ [])) y ≡ Some q → q ≡ Item (f ++ b ∷ y)) → q ≡ Item (f ++ b ∷ y)
    by true e more = more e
    by false e more = absurd cc

start_stage : (c : Conversion) → c.column ≡ false → (v : Bool) → shape_skips c.shape ≡ v → (y : List ℕ) (q : Stage)
    → stepped_all (Conv c) Skipping y ≡ Some q → q ≡ stage_of (drop (skip_if v y) y)
start_stage c plain v is [] q e = by v
  where
    by : (v : Bool) → q ≡ stage_of (drop (skip_if v []) [])
    by true = cc
    by false = cc
start_stage c plain v is (b ∷ y) q e =
    by v (is_white b) (can_take c (b ∷ [])) (subst (λ t. choose (cond (t && is_white b) (Some Skipping) (item_stepped c [] b)) None
    (λ r. stepped_all (Conv c) r y) ≡ Some q) is
    (ap (λ (o : Option Stage). choose o None (λ r. stepped_all (Conv c) r y)) (sym (stepped_plain c plain Skipping b)) ∙ e))
    (start_stage c plain v is y q) (item_stage c plain (b ∷ []) y q)
  where
    by : (v w k : Bool) → choose (cond (v && w) (Some Skipping) (cond k (Some (Item (b ∷ []))) None)) None (λ r. stepped_all (Conv c) r y)
        ≡ Some q
        → (stepped_all (Conv c) Skipping y ≡ Some q → q ≡ stage_of (drop (skip_if v y) y))
        → (stepped_all (Conv c) (Item (b ∷ [])) y ≡ Some q → q ≡ Item (b ∷ y))
        → q ≡ stage_of (drop (cond v (cond w (suc (skip y)) 0) 0) (b ∷ y))
    by true true k e skipping taking = skipping e
    by true false true e skipping taking = taking e
    by false w true e skipping taking = taking e
    by true false false e skipping taking = absurd cc
    by false w false e skipping taking = absurd cc

plain_item : (c : Conversion) → c.column ≡ false → (item : List ℕ) → item_of (Conv c) (stage_of item) ≡ item
plain_item c plain [] = refl
plain_item c plain (b ∷ item) = rw plain refl

text_by : (c : Conversion) (v : Bool) → c.column ≡ v → (y : List ℕ) (q : Stage) → stepped_all (Conv c) Skipping y ≡ Some q
    → IsTextBy v c y (opened_for (Conv c) q)
text_by c true column y q led =
    ap (opened_for (Conv c)) (column_stage c column [] y q led) ∙ ap (text_begun (text_slot (Conv c))) (column_item c column y)
text_by c false plain y q led = (
  skip_before c.shape y,
  skip_before_is c.shape y,
  ap (opened_for (Conv c)) (start_stage c plain (shape_skips c.shape) refl y q led)
      ∙ ap (text_begun (text_slot (Conv c))) (plain_item c plain (drop (skip_if (shape_skips c.shape) y) y))
      ∙ ap (λ n. text_begun (text_slot (Conv c)) (drop n y)) (sym (skip_is_if c.shape y)),
)

text_at : (d : Directive) (y : List ℕ) (q : Stage) → stepped_all d Skipping y ≡ Some q → IsTextUnderWay d y (opened_for d q)
text_at Space y q led = refl
text_at (Byte b) y q led = refl
text_at Percent y q led = refl
text_at (Opens o) y q led = refl
text_at (Conv c) y q led = text_by c c.column refl y q led

-- ---- where it is cut off

pub same_front : (a b : List Ran) (u v : List Ran) → length a ≡ length b → a ++ u ≡ b ++ v → a ≡ b
same_front [] [] u v e f = refl
same_front [] (r ∷ b) u v e f = absurd (omega (arith, e))
same_front (r ∷ a) [] u v e f = absurd (omega (arith, e))
same_front (r ∷ a) (s ∷ b) u v e f =
    let rest : a ++ u ≡ b ++ v = cc in
    let first : r ≡ s = cc in
    let more : length a ≡ length b = omega (arith, e) in
    ap₂ (λ (t : Ran) (l : List Ran). t ∷ l) first (same_front a b u v more rest)

-- a run on x and more is cut off in the directive under way, after the steps that the others made
module _ (ds : List Directive) (proper : AreProper ds) (p : ℕ) (d : Directive) (at : slice_get ds p ≡ Some d) (current : Phase)
    (opened : Option Opened) (n : ℕ) (x : List ℕ)
    (h : ComesBy ds p current opened n x []) (b m : ℕ) (before : List Ran) (count : p ≡ length before)
    (cut : IsCut ds (x ++ b ∷ []) m before) where
  own : cut.cut.directive ≡ d
  own = some_is _ _ (sym (ran_at ds (x ++ b ∷ []) 0 before cut.cut cut.rest cut.steps) ∙ ap (slice_get ds) (sym count) ∙ at)

  same : h.before ≡ before
  same =
      let c = h.count in
      same_front h.before before _ _ (omega (arith, c, count)) (sym (h.steps (b ∷ []))
      ∙ sym (steps_only ds proper (x ++ b ∷ []) 0 _ cut.steps))

  shows : Shows d current h.stage × (opened ≡ opened_for d h.stage)
  shows = showing ds p d at current opened n x [] h

  led : stepped_all d Skipping (drop (bytes_used h.before) x) ≡ Some h.stage
  led = leading ds p d at current opened n x [] h

  pub text_of_cut : IsTextUnderWay cut.cut.directive (drop (bytes_used before) x) opened
  text_of_cut = subst (λ (e : Directive). IsTextUnderWay e (drop (bytes_used before) x) opened) (sym own)
      (subst (λ (l : List Ran). IsTextUnderWay d (drop (bytes_used l) x) opened) same
      (subst (IsTextUnderWay d (drop (bytes_used h.before) x)) (sym shows.1) (text_at d (drop (bytes_used h.before) x) h.stage led)))

  pub item_of_cut : IsUnderWay cut.cut.directive (drop (bytes_used before) x) current
  item_of_cut = subst (λ (e : Directive). IsUnderWay e (drop (bytes_used before) x) current) (sym own)
      (subst (λ (l : List Ran). IsUnderWay d (drop (bytes_used l) x) current) same (h.stage, led, shows.0))
