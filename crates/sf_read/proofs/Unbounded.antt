-- A run that is Done, has used all of its input and ends with an item that can go on would consume some byte next.
use Rattle.std.proofs.Common.{◌≡◌, ℕ, ◌+◌, ◌-◌, ◌<◌, ◌≤◌, inl, inr, Bool, true, false, cond, List, [], ◌∷◌, ◌++◌, length, take, drop}
use Rattle.std.proofs.Common.{Option, Some, None, refl, sym, ap, subst, ◌∙◌, arith, lit<, zero, suc, ◌&&◌, ◌||◌, is_some, unwrap_or}
use Rattle.std.specs.Prelude.{slice_get, SomeIff}
use Rattle.std.proofs.lemmas.Bool.{and_from, and_parts}
use Rattle.std.proofs.lemmas.List.{append-nil, append_assoc, take-append-drop}
use Rattle.std.proofs.lemmas.Option.{slice_get_within}
use Rattle.std.proofs.lemmas.Grind.{common_steps}
use Rattle.std.specs.List.{list_all}
use Rattle.sf_base.specs.Blanks.{are_white}
use Rattle.sf_base.specs.Sets.{has_byte}
use Rattle.sf_format.specs.declared.directive.Shape.{Shape}
use Rattle.sf_format.specs.declared.directive.Shape.TheVariants.{Int, Text, Set, Chars, Float, Count}
use Rattle.sf_format.specs.declared.directive.Conversion.{Conversion}
use Rattle.sf_format.specs.declared.directive.Directive.{Directive}
use Rattle.sf_format.specs.declared.directive.Directive.TheVariants.{Space, Byte, Percent, Conv, Opens}
use Rattle.sf_format.specs.Proper.{IsProper, IsProperShape, AreProper, has_group, is_opener, more_of}
use Rattle.sf_item.specs.ColumnTests.{column_text}
use Rattle.sf_item.specs.Tests.{can_take, is_ink, is_within, shape_begins}
use Rattle.sf_item.proofs.Fronts.{zero_begins}
use Rattle.sf_report.specs.declared.outcome.Ending.{Ending}
use Rattle.sf_report.specs.declared.outcome.Ending.TheVariants.{End}
use Rattle.sf_report.specs.declared.outcome.Status.{Status}
use Rattle.sf_report.specs.declared.outcome.Status.TheVariants.{Done, InputFailure}
use Rattle.sf_report.specs.Steps.{StepEnd, Passes, Stores, Misses, Fails}
use Rattle.sf_report.specs.Runs.{RunReport, IsOpen, Run, over}
use Rattle.sf_report.specs.Limits.{RunWithin}
use Rattle.sf_report.specs.Laws.{EachDoneRunStays, EachOpenInputIsUsed}
use Rattle.sf_base.specs.Bytes.{is_white}
use Rattle.sf_report.specs.Machine.{Stage, Skipping, Taken, Item, shape_skips, item_stepped, conversion_stepped, stepped, is_full}
use Rattle.sf_report.specs.Machine.{empty_end, text_end, conversion_finished, column_finished, finished_by, finished}
use Rattle.sf_report.specs.Residual.{stepped_all, Tally, nothing_yet, Part, choose, one_from, with_used, counted, out_of, by_end, then_on}
use Rattle.sf_report.specs.Residual.{run_of, run_past}
use Rattle.sf_report.proofs.Joined.{one_from-all}
use Rattle.sf_report.proofs.Machines.{by_option, can_take_one, keeps_all, not_full, some_is, steps_by}
use Rattle.sf_report.proofs.Openness.{counted-used, holds_by}
use Rattle.sf_report.proofs.Inputs.{open_of, open_all}
use Rattle.sf_report.proofs.Told.{run_told, met_within}
use Rattle.sf_format.specs.Unbounded.{GoesOn, EndsUnbounded}

-- ---- the item goes on

-- one byte more of these is one of these
all_more : (p : ℕ → Bool) (f : List ℕ) (b : ℕ) → list_all p f ≡ true → p b ≡ true → list_all p (f ++ b ∷ []) ≡ true
all_more p f b h one = grind (arith, common_steps)

-- a byte goes on with every item of the shape
shape_goes_on : (shape : Shape) (width : Option ℕ) → IsProperShape shape → GoesOn shape → (f : List ℕ) → shape_begins shape width f ≡ true
    → (b : ℕ) × (b < 256) × (shape_begins shape width (f ++ b ∷ []) ≡ true)
shape_goes_on (Int numeral) width proper goes f h = (48, lit< tt, zero_begins numeral f h)
shape_goes_on (Text lead) width proper goes f h = (65, lit< tt, all_more is_ink f 65 h refl)
shape_goes_on (Set members) width proper goes f h = (proper.0, proper.1, all_more (has_byte members) f proper.0 h proper.2)
shape_goes_on Chars width proper goes f h = absurd goes
shape_goes_on (Float lead) width proper goes f h = absurd goes
shape_goes_on Count width proper goes f h = absurd goes

no_width_within : (width : Option ℕ) (n : ℕ) → width ≡ None → is_within width n ≡ true
no_width_within width n e = ap (λ w. is_within w n) e

item_goes_on : (c : Conversion) → IsProperShape c.shape → GoesOn c.shape → c.width ≡ None → (f : List ℕ) → can_take c f ≡ true
    → (b : ℕ) × (b < 256) × (can_take c (f ++ b ∷ []) ≡ true)
item_goes_on c proper goes none f can =
    let (b, below, begins) = shape_goes_on c.shape c.width proper goes f
    (and_parts (is_within c.width (length f)) (shape_begins c.shape c.width f) can).1 in (
      b,
      below,
      and_from (is_within c.width (length (f ++ b ∷ []))) (shape_begins c.shape c.width (f ++ b ∷ []))
          (no_width_within c.width (length (f ++ b ∷ [])) none) begins,
    )

-- ---- how far the conversion comes

-- the stage of an item has what can be taken
abbrev IsStage : Conversion → Stage → Type 0
IsStage c Skipping = Unit {0}
IsStage c Taken = ⊥
IsStage c (Item f) = can_take c f ≡ true

stage_taken : (c : Conversion) (f : List ℕ) (b : ℕ) (r : Stage) → item_stepped c f b ≡ Some r → IsStage c r
stage_taken c f b r e = by (can_take c (f ++ b ∷ [])) refl
  where
    by : (v : Bool) → can_take c (f ++ b ∷ []) ≡ v → IsStage c r
    by true can =
        let is : Some (Item (f ++ b ∷ [])) ≡ Some r = ap (λ v. cond v (Some (Item (f ++ b ∷ []))) None) (sym can) ∙ e in
        subst (IsStage c) (some_is _ _ is) can
    by false can =
        let is : None ≡ Some r = ap (λ v. cond v (Some (Item (f ++ b ∷ []))) None) (sym can) ∙ e in
        absurd cc

next_stage : (c : Conversion) (q : Stage) (b : ℕ) (r : Stage) → IsStage c q → conversion_stepped c q b ≡ Some r → IsStage c r
next_stage c Skipping b r is e = by (shape_skips c.shape && is_white b) refl
  where
    by : (v : Bool) → (shape_skips c.shape && is_white b) ≡ v → IsStage c r
    by true skips =
        let same : Some Skipping ≡ Some r = ap (λ v. cond v (Some Skipping) (item_stepped c [] b)) (sym skips) ∙ e in
        subst (IsStage c) (some_is _ _ same) tt
    by false skips = stage_taken c [] b r (ap (λ v. cond v (Some Skipping) (item_stepped c [] b)) (sym skips) ∙ e)
next_stage c Taken b r is e = absurd is
next_stage c (Item f) b r is e = stage_taken c f b r e

last_stage : (c : Conversion) → c.column ≡ false → (q : Stage) (x : List ℕ) (r : Stage) → IsStage c q → stepped_all (Conv c) q x ≡ Some r
    → IsStage c r
last_stage c no_column q [] r is e = subst (IsStage c) (some_is _ _ e) is
last_stage c no_column q (b ∷ x) r is e = by (stepped (Conv c) q b) refl (λ p. last_stage c no_column p x r)
  where
    by : (o : Option Stage) → stepped (Conv c) q b ≡ o → ((p : Stage) → IsStage c p → stepped_all (Conv c) p x ≡ Some r → IsStage c r)
        → IsStage c r
    by None stops ih =
        let never : None ≡ Some r = ap (λ o. choose o None (λ p. stepped_all (Conv c) p x)) (sym stops) ∙ e in
        absurd cc
    by (Some p) goes ih = ih p (next_stage c q b p is (sym (steps_by c false no_column q b) ∙ goes))
        (ap (λ o. choose o None (λ p. stepped_all (Conv c) p x)) (sym goes) ∙ e)

-- such an item isn't full
item_open : (c : Conversion) → c.column ≡ false → IsProperShape c.shape → GoesOn c.shape → c.width ≡ None → (f : List ℕ)
    → can_take c f ≡ true → is_full (Conv c) (Item f) ≡ false
item_open c no_column proper goes none f can =
    let (b, below, more) = item_goes_on c proper goes none f can in
    not_full (Conv c) (Item f) b (Item (f ++ b ∷ [])) below
    (steps_by c false no_column (Item f) b ∙ ap (λ v. cond v (Some (Item (f ++ b ∷ []))) None) more)

-- ---- a directive that ends before a byte

-- it leaves that byte
stops_before : (d : Directive) (q : Stage) (n : ℕ) (x : List ℕ) → stepped_all d q x ≡ None → (one_from d q n x).used < n + length x
stops_before d q n [] e = absurd cc
stops_before d q n (b ∷ x) e = by (stepped d q b) e (λ r. stops_before d r (n + 1) x)
  where
    by : (o : Option Stage) → choose o None (λ r. stepped_all d r x) ≡ None
        → ((r : Stage) → stepped_all d r x ≡ None → (one_from d r (n + 1) x).used < (n + 1) + length x)
        → (choose o (record { used = n; left = b ∷ x; end = finished d q n true }) (λ r. one_from d r (n + 1) x)).used < n + suc
        (length x)
    by None h ih = omega arith
    by (Some r) h ih = omega (arith, ih r h)

abbrev more_left : Part → List ℕ → Part
more_left p z = record { used = p.used; left = p.left ++ z; end = p.end }

-- and ends so on every longer input
stops_alike : (d : Directive) (q : Stage) (n : ℕ) (x z : List ℕ) → stepped_all d q x ≡ None
    → one_from d q n (x ++ z) ≡ more_left (one_from d q n x) z
stops_alike d q n [] z e = absurd cc
stops_alike d q n (b ∷ x) z e = go (stepped d q b) e (λ r h. stops_alike d r (n + 1) x z h)
  where
    go : (o : Option Stage) → choose o None (λ r. stepped_all d r x) ≡ None
        → ((r : Stage) → stepped_all d r x ≡ None → one_from d r (n + 1) (x ++ z) ≡ more_left (one_from d r (n + 1) x) z)
        → choose o (record { used = n; left = b ∷ (x ++ z); end = finished d q n true }) (λ p. one_from d p (n + 1) (x ++ z))
        ≡ more_left (choose o (record { used = n; left = b ∷ x; end = finished d q n true }) (λ p. one_from d p (n + 1) x)) z
    go o h ih = grind arith

-- ---- no directive fails as Done

abbrev NotDone : StepEnd → Type 0
NotDone end = end ≡ Fails Done → ⊥

item_not_done : (c : Conversion) (q : Stage) (n : ℕ) (more : Bool) → NotDone (conversion_finished c c.shape q n more)
item_not_done c q n more = grind arith

text_not_done : (c : Conversion) (t : List ℕ) → NotDone (text_end c t)
text_not_done c t = grind arith

empty_not_done : (c : Conversion) (more : Bool) → NotDone (empty_end c more)
empty_not_done c more = grind arith

column_not_done : (c : Conversion) (q : Stage) (more : Bool) → NotDone (column_finished c q more)
column_not_done c Skipping more = empty_not_done c more
column_not_done c Taken more = grind arith
column_not_done c (Item f) more = by_white (are_white f)
  where
    by_white : (v : Bool) → NotDone (cond v (empty_end c true) (text_end c (column_text c f)))
    by_white true = empty_not_done c true
    by_white false = text_not_done c (column_text c f)

never_done : (d : Directive) (q : Stage) (n : ℕ) (more : Bool) → NotDone (finished d q n more)
never_done d q n more = grind (arith, item_not_done, column_not_done)

one_never_done : (d : Directive) (q : Stage) (n : ℕ) (x : List ℕ) → NotDone (one_from d q n x).end
one_never_done d q n [] = never_done d q n false
one_never_done d q n (b ∷ x) = by_option (λ p. NotDone p.end) (stepped d q b) _ _ (never_done d q n true)
    (λ r. one_never_done d r (n + 1) x)

-- where the run is Done, its directive has passed
first_passed : (d : Directive) (ds : List Directive) (at : ℕ) (t : Tally) (p : Part) → NotDone p.end
    → (then_on None d at t p (run_past None ds (at + 1))).status ≡ Done
    → (status : Status) → p.end ≡ Fails status → ⊥
first_passed d ds at t p ok done status e =
    let is : status ≡ Done = ap
    (λ o. (by_end o (run_past None ds (at + 1) (over d p.end) (counted d p.end (with_used p.used t)) p.left)
    (λ s. out_of s at (with_used p.used t))).status) (sym e) ∙ done in
    ok (e ∙ ap Fails is)

-- a directive that opens no group is missing alone
more_alone : (d : Directive) → is_opener d ≡ false → more_of d ≡ 0
more_alone (Conv c) alone = by c.optional c.opens alone
  where
    by : (optional : Bool) (opens : Option ℕ) → is_some opens ≡ false → cond optional (unwrap_or opens 0) 0 ≡ 0
    by false opens e = refl
    by true None e = refl
    by true (Some n) e = absurd cc
more_alone (Opens o) alone = absurd cc
more_alone Space alone = refl
more_alone (Byte b) alone = refl
more_alone Percent alone = refl

over_alone : (d : Directive) (end : StepEnd) → is_opener d ≡ false → over d end ≡ 0
over_alone d Passes alone = refl
over_alone d (Stores slot v) alone = refl
over_alone d Misses alone = more_alone d alone
over_alone d (Fails status) alone = refl

or_false : (a b : Bool) → (a || b) ≡ false → (a ≡ false) × (b ≡ false)
or_false true b e = absurd cc
or_false false b e = (refl, e)

alone_parts : (d : Directive) (ds : List Directive) → has_group (d ∷ ds) ≡ false → (is_opener d ≡ false) × (has_group ds ≡ false)
alone_parts d ds none = or_false (is_opener d) (has_group ds) none

-- and the rest of the run follows
goes_to_rest : (d : Directive) → is_opener d ≡ false → (ds : List Directive) (at : ℕ) (t : Tally) (p : Part)
    → ((status : Status) → p.end ≡ Fails status → ⊥)
    → then_on None d at t p (run_past None ds (at + 1)) ≡ run_of None ds (at + 1) (counted d p.end (with_used p.used t)) p.left
goes_to_rest d alone ds at t p passed =
    ap (λ k. by_end p.end (run_past None ds (at + 1) k (counted d p.end (with_used p.used t)) p.left)
    (λ s. out_of s at (with_used p.used t)))
    (over_alone d p.end alone) ∙ by p.end refl
  where
    rest : RunReport
    rest = run_of None ds (at + 1) (counted d p.end (with_used p.used t)) p.left

    by : (o : StepEnd) → p.end ≡ o → by_end p.end rest (λ s. out_of s at (with_used p.used t)) ≡ rest
    by Passes e = ap (λ o. by_end o rest (λ s. out_of s at (with_used p.used t))) e
    by (Stores slot v) e = ap (λ o. by_end o rest (λ s. out_of s at (with_used p.used t))) e
    by Misses e = ap (λ o. by_end o rest (λ s. out_of s at (with_used p.used t))) e
    by (Fails status) e = absurd (passed status e)

-- ---- a run that ends with such a conversion

-- the item goes on, and has to be there; it isn't a column
abbrev IsNeeded : Conversion → Type 0
IsNeeded c = GoesOn c.shape × (c.optional ≡ false) × (c.column ≡ false)

shape_lacks : (c : Conversion) (shape : Shape) (n : ℕ) → GoesOn shape → c.optional ≡ false
    → conversion_finished c shape Skipping n false ≡ Fails InputFailure
shape_lacks c (Int numeral) n goes needed = rw needed refl
shape_lacks c (Text lead) n goes needed = rw needed refl
shape_lacks c (Set members) n goes needed = rw needed refl
shape_lacks c Chars n goes needed = absurd goes
shape_lacks c (Float lead) n goes needed = absurd goes
shape_lacks c Count n goes needed = absurd goes

conversion_lacks : (c : Conversion) (n : ℕ) → IsNeeded c → finished (Conv c) Skipping n false ≡ Fails InputFailure
conversion_lacks c n (goes, needed, no_column) =
    ap (λ v. finished_by v c Skipping n false) no_column ∙ shape_lacks c c.shape n goes needed

-- the part of a directive that takes all
whole_part : (d : Directive) (q r : Stage) (n : ℕ) (x : List ℕ) → stepped_all d q x ≡ Some r
    → one_from d q n x ≡ record { used = n + length x; left = []; end = finished d r (n + length x) false }
whole_part d q r n x e =
    subst (λ (y : List ℕ). one_from d q n y ≡ record { used = n + length x; left = []; end = finished d r (n + length x) false })
    (append-nil x)
    (one_from-all d q r n x [] e)

fails_alone : (c : Conversion) (at : ℕ) (t : Tally) (p : Part) → p.end ≡ Fails InputFailure
    → (then_on None (Conv c) at t p (run_past None [] (at + 1))).status ≡ Done → ⊥
fails_alone c at t p e done =
    let is : InputFailure ≡ Done = ap
    (λ o. (by_end o (run_past None [] (at + 1) (over (Conv c) p.end) (counted (Conv c) p.end (with_used p.used t)) p.left)
    (λ s. out_of s at (with_used p.used t))).status) (sym e) ∙ done in
    absurd cc

-- with nothing left for it, the run isn't Done
lacks_an_item : (c : Conversion) → IsNeeded c → (ds : List Directive) → has_group ds ≡ false → (at : ℕ) (t : Tally)
    → (run_of None (ds ++ Conv c ∷ []) at t []).status ≡ Done → ⊥
lacks_an_item c goes [] none at t done = fails_alone c at t (one_from (Conv c) Skipping t.used []) (conversion_lacks c t.used goes) done
lacks_an_item c goes (d ∷ ds) none at t done =
    let alone = alone_parts d ds none in
    let p : Part = one_from d Skipping t.used [] in
    let passed = first_passed d (ds ++ Conv c ∷ []) at t p (one_never_done d Skipping t.used []) done in
    lacks_an_item c goes ds alone.1 (at + 1) (counted d p.end (with_used p.used t))
    (ap (λ (r : RunReport). r.status) (sym (goes_to_rest d alone.0 (ds ++ Conv c ∷ []) at t p passed)) ∙ done)

alone_uses : (c : Conversion) (at : ℕ) (t : Tally) (p : Part) → (then_on None (Conv c) at t p (run_past None [] (at + 1))).used ≡ p.used
alone_uses c at t p =
    holds_by (λ o. o.used ≡ p.used) p.end
    (run_past None [] (at + 1) (over (Conv c) p.end) (counted (Conv c) p.end (with_used p.used t)) p.left)
    (λ s. out_of s at (with_used p.used t))
    (counted-used (Conv c) p.end (with_used p.used t)) (λ status. refl)

-- the run consumes some byte next
abbrev TakesNext : List Directive → ℕ → Tally → List ℕ → Type 0
TakesNext ds at t x = (b : ℕ) × (b < 256) × ((run_of None ds at t (x ++ b ∷ [])).used ≡ t.used + length x + 1)

last_takes : (c : Conversion) → IsProperShape c.shape → IsNeeded c → c.width ≡ None → (at : ℕ) (t : Tally) (x : List ℕ)
    → (run_of None (Conv c ∷ []) at t x).status ≡ Done → (run_of None (Conv c ∷ []) at t x).used ≡ t.used + length x
    → TakesNext (Conv c ∷ []) at t x
last_takes c proper goes none at t x done all = by (stepped_all (Conv c) Skipping x) refl
  where
    staged : (r : Stage) → IsStage c r → stepped_all (Conv c) Skipping x ≡ Some r → TakesNext (Conv c ∷ []) at t x
    staged Skipping is e =
        let part = whole_part (Conv c) Skipping Skipping t.used x e in
        absurd (fails_alone c at t (one_from (Conv c) Skipping t.used x)
        (ap (λ (p : Part). p.end) part ∙ conversion_lacks c (t.used + length x) goes) done)
    staged Taken is e = absurd is
    staged (Item f) is e =
        let byte = can_take_one (Conv c) (Item f) (item_open c goes.2 proper goes.0 none f is) in
        let b : ℕ = byte.0 in
        let next : one_from (Conv c) Skipping t.used
        (x ++ b ∷ []) ≡ record
        { used = t.used + length x + 1; left = []; end = finished (Conv c) byte.2 (t.used + length x + 1) false } =
        one_from-all (Conv c) Skipping (Item f) t.used x (b ∷ []) e ∙ rw byte.3 refl in
        (b, byte.1, alone_uses c at t (one_from (Conv c) Skipping t.used (x ++ b ∷ [])) ∙ ap (λ (p : Part). p.used) next)

    by : (o : Option Stage) → stepped_all (Conv c) Skipping x ≡ o → TakesNext (Conv c ∷ []) at t x
    by None e = absurd (omega
        (arith, stops_before (Conv c) Skipping t.used x e, alone_uses c at t (one_from (Conv c) Skipping t.used x), all))
    by (Some r) e = staged r (last_stage c goes.2 Skipping x r tt e) e

takes_next : (c : Conversion) → IsProperShape c.shape → IsNeeded c → c.width ≡ None
    → (ds : List Directive) → has_group ds ≡ false → (at : ℕ) (t : Tally) (x : List ℕ)
    → (run_of None (ds ++ Conv c ∷ []) at t x).status ≡ Done → (run_of None (ds ++ Conv c ∷ []) at t x).used ≡ t.used + length x
    → TakesNext (ds ++ Conv c ∷ []) at t x
takes_next c proper goes none [] single at t x done all = last_takes c proper goes none at t x done all
takes_next c proper goes none (d ∷ ds) single at t x done all =
    by (stepped_all d Skipping x) refl
    (takes_next c proper goes none ds alone.1 (at + 1) u p.left (ap (λ (r : RunReport). r.status) (sym rest) ∙ done)
    (ap (λ (r : RunReport). r.used) (sym rest) ∙ all ∙ sym (keeps_all d Skipping t.used x) ∙ ap (λ n. n + length p.left) (sym uses)))
  where
    alone : (is_opener d ≡ false) × (has_group ds ≡ false)
    alone = alone_parts d ds single

    back : List Directive
    back = ds ++ Conv c ∷ []

    p : Part
    p = one_from d Skipping t.used x

    u : Tally
    u = counted d p.end (with_used p.used t)

    uses : u.used ≡ p.used
    uses = counted-used d p.end (with_used p.used t)

    passed : (status : Status) → p.end ≡ Fails status → ⊥
    passed = first_passed d back at t p (one_never_done d Skipping t.used x) done

    rest : run_of None (d ∷ back) at t x ≡ run_of None back (at + 1) u p.left
    rest = goes_to_rest d alone.0 back at t p passed

    by : (o : Option Stage) → stepped_all d Skipping x ≡ o → TakesNext back (at + 1) u p.left → TakesNext (d ∷ back) at t x
    by None e (b, below, takes) =
        let same : run_of None (d ∷ back) at t (x ++ b ∷ []) ≡ run_of None back (at + 1) u (p.left ++ b ∷ []) =
        ap (λ part. then_on None d at t part (run_past None back (at + 1))) (stops_alike d Skipping t.used x (b ∷ []) e)
        ∙ goes_to_rest d alone.0 back at t (more_left p (b ∷ [])) passed in
        (b, below, ap (λ (r : RunReport). r.used) same ∙ takes ∙ omega (arith, uses, keeps_all d Skipping t.used x))
    by (Some r) e takes =
        let nothing : p.left ≡ [] = ap (λ (q : Part). q.left) (whole_part d Skipping r t.used x e) in
        absurd (lacks_an_item c goes ds alone.1 (at + 1) u
        (subst (λ y. (run_of None back (at + 1) u y).status ≡ Done) nothing (ap (λ (r : RunReport). r.status) (sym rest) ∙ done)))

-- ---- the last directive

last_at : {A : Type 0} (xs : List A) (n : ℕ) (a : A) → n + 1 ≡ length xs → slice_get xs n ≡ Some a → xs ≡ take n xs ++ a ∷ []
last_at [] n a long e = absurd cc
last_at (x ∷ []) zero a long e = ap (λ y. y ∷ []) (some_is x a e)
last_at (x ∷ []) (suc n) a long e = absurd cc
last_at (x ∷ y ∷ xs) zero a long e = absurd (omega arith)
last_at (x ∷ y ∷ xs) (suc n) a long e = ap (λ ys. x ∷ ys) (last_at (y ∷ xs) n a (omega arith) e)

last_is : {A : Type 0} (xs : List A) (a : A) → slice_get xs (length xs - 1) ≡ Some a → xs ≡ take (length xs - 1) xs ++ a ∷ []
last_is xs a e = let within : length xs - 1 < length xs = slice_get_within xs (length xs - 1) a e in last_at xs (length xs - 1) a
    (omega arith) e

proper_last : (front : List Directive) (d : Directive) → AreProper (front ++ d ∷ []) → IsProper d
proper_last [] d proper = proper.0
proper_last (e ∷ front) d proper = proper_last front d proper.1

-- where no directive opens a group, none of a front does
front_alone : (n : ℕ) (ds : List Directive) → has_group ds ≡ false → has_group (take n ds) ≡ false
front_alone zero ds none = refl
front_alone (suc n) [] none = refl
front_alone (suc n) (d ∷ ds) none =
    let parts = alone_parts d ds none in rw parts.0 (front_alone n ds parts.1)

-- a run that is Done and has used all of its input would consume some byte next
pub is_open_after : (ds : List Directive) → AreProper ds → EndsUnbounded ds → (x : List ℕ)
    → (run_of None ds 1 nothing_yet x).status ≡ Done
    → (run_of None ds 1 nothing_yet x).used ≡ length x → IsOpen ds x
is_open_after ds proper ends x done all =
    let c = ends.conversion in
    let front : List Directive = take (length ds - 1) ds in
    let is : ds ≡ front ++ Conv c ∷ [] = last_is ds (Conv c) ends.last in
    let own : IsProper (Conv c) = proper_last front (Conv c) (subst AreProper is proper) in
    let takes : TakesNext (front ++ Conv c ∷ []) 1 nothing_yet x = takes_next c own.0 (ends.goes_on, ends.needed, ends.no_column)
    ends.no_width front (front_alone (length ds - 1) ds ends.no_group) 1 nothing_yet x
    (subst (λ es. (run_of None es 1 nothing_yet x).status ≡ Done) is done)
    (subst (λ es. (run_of None es 1 nothing_yet x).used ≡ length x) is all ∙ omega arith) in
    let here : TakesNext ds 1 nothing_yet x = subst (λ es. TakesNext es 1 nothing_yet x) (sym is) takes in
    open_of ds proper x (record { next = here.0; is_byte = here.1; takes = here.2; all = all ∙ omega arith })

-- ---- the report of a text, from that of the text with more bytes after it

-- by the law, the run of the text alone is Done too, and what it met says whether the text is open
done_alone : EachDoneRunStays → (ds : List Directive) → AreProper ds → (m : ℕ) (x rest : List ℕ) (r : RunReport)
    → RunWithin ds m (x ++ rest) End r
    → r.status ≡ Done → r.used ≤ length x → (met : Option Ending) × RunWithin ds m x End (record r { met = met })
done_alone stays ds proper m x rest r run done le = stays ds proper m x rest End End r run done le

not_met : (met : Option Ending) (P : Type 0) → SomeIff met P End → (P → ⊥) → met ≡ None
not_met met P h never = grind arith

is_met : (met : Option Ending) (P : Type 0) → SomeIff met P End → P → met ≡ Some End
is_met met P h p = grind arith

-- a run that is Done is within the limit
done_run : (ds : List Directive) (m : ℕ) (x : List ℕ) (r : RunReport) → r.status ≡ Done → RunWithin ds m x End r → (r.used ≤ m)
    × Run ds x End r
done_run ds m x r done (inl w) = w
done_run ds m x r done (inr w) = let is = ap (λ (o : RunReport). o.status) w.2 in absurd cc

pub inside_report : EachDoneRunStays → EachOpenInputIsUsed → (ds : List Directive) → AreProper ds
    → (m : ℕ) (x rest : List ℕ) (r : RunReport)
    → RunWithin ds m (x ++ rest) End r → r.status ≡ Done → r.met ≡ None → r.used < length x → RunWithin ds m x End r
inside_report stays used ds proper m x rest r run done none less =
    let alone = done_alone stays ds proper m x rest r run done (omega (arith, less)) in
    let own : RunReport = record r { met = alone.0 } in
    let ran : (own.used ≤ m) × Run ds x End own = done_run ds m x own done alone.1 in
    let closed : IsOpen ds x → ⊥ = λ o. let all : own.used ≡ length x = used ds proper x End own o ran.1 in omega (arith, less, all) in
    let some = (met_within open_all ds proper m x End own alone.1).1 in
    let met : alone.0 ≡ r.met = not_met alone.0 (IsOpen ds x × (length x ≤ m)) some (λ o. closed o.0) ∙ sym none in
    subst (λ n. RunWithin ds m x End (record r { met = n })) met alone.1

pub whole_report : EachDoneRunStays → (ds : List Directive) → AreProper ds → EndsUnbounded ds
    → (m : ℕ) (x rest : List ℕ) (r : RunReport)
    → RunWithin ds m (x ++ rest) End r → r.status ≡ Done → r.used ≡ length x → RunWithin ds m x End (record r { met = Some End })
whole_report stays ds proper ends m x rest r run done all =
    let alone = done_alone stays ds proper m x rest r run done (omega (arith, all)) in
    let own : RunReport = record r { met = alone.0 } in
    let ran : (own.used ≤ m) × Run ds x End own = done_run ds m x own done alone.1 in
    let is : run_of None ds 1 nothing_yet x ≡ record r { met = None } = run_told ds proper x ran.1.0 ran.1.1
    ∙ ap (λ (o : RunReport). record o { met = None }) (sym ran.1.4) in
    let open' : IsOpen ds x = is_open_after ds proper ends x (ap (λ (o : RunReport). o.status) is ∙ done)
    (ap (λ (o : RunReport). o.used) is ∙ all) in
    let some = (met_within open_all ds proper m x End own alone.1).1 in
    let met : alone.0 ≡ Some End = is_met alone.0 (IsOpen ds x × (length x ≤ m)) some (open', omega (arith, all, ran.0)) in
    subst (λ n. RunWithin ds m x End (record r { met = n })) met alone.1

-- ---- a text that is laid down in a block, with a newline after it

pub laid_down : (text block : List ℕ) → take (length text + 1) block ≡ text ++ 10 ∷ []
    → block ++ [] ≡ text ++ 10 ∷ drop (length text + 1) block
laid_down text block front =
    append-nil block ∙ sym (take-append-drop (length text + 1) block) ∙ ap (λ (x : List ℕ). x ++ drop (length text + 1) block) front
    ∙ append_assoc text (10 ∷ []) (drop (length text + 1) block)
