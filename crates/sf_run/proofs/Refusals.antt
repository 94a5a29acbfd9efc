-- Runs for which memory was refused.
use Rattle.std.proofs.lemmas.Grind.{common_steps}
use Rattle.std.proofs.Common.{zero, ◌≡◌, ℕ, suc, ◌+◌, ◌-◌, ◌<◌, ◌≤◌, ◌&&◌, inl, inr, Bool, true, false, cond, List, [], ◌∷◌, ◌++◌, length}
use Rattle.std.proofs.Common.{take}
use Rattle.std.proofs.Common.{drop}
use Rattle.std.proofs.Common.{Option, Some, get_or}
use Rattle.std.proofs.Common.{None, is_some, refl, sym, ap, subst, ◌∙◌, arith, true≢false, append_assoc, length-append}
use Rattle.std.specs.Prelude.{slice_get, IfNone, IsSome, ℤ}
use Rattle.std.proofs.lemmas.List.{drop-append-le, drop_more, length-take-le, take-append-drop}
use Rattle.sf_base.specs.Bytes.{IsSkip, is_white}
use Rattle.sf_base.specs.Blanks.{are_white}
use Rattle.sf_base.specs.Data.{value_of}
use Rattle.sf_base.specs.declared.real.Real as real
use Rattle.sf_format.specs.declared.directive.Conversion.{Conversion}
use Rattle.sf_format.specs.declared.directive.Lead.{Lead}
use Rattle.sf_format.specs.declared.directive.Lead.TheVariants.{Any, Minus, Nothing}
use Rattle.sf_format.specs.declared.directive.Shape.{Shape}
use Rattle.sf_format.specs.declared.directive.Shape.TheVariants.{Int, Text, Set, Chars, Float, Count}
use Rattle.sf_format.specs.declared.directive.Directive.{Directive}
use Rattle.sf_format.specs.declared.directive.Directive.TheVariants.{Space, Byte, Percent, Conv, Opens}
use Rattle.sf_format.specs.Proper.{AreProper}
use Rattle.sf_item.specs.Tests.{integer_at, matches}
use Rattle.sf_item.specs.ColumnTests.{column_text, fills}
use Rattle.sf_report.specs.declared.outcome.Ending.{Ending}
use Rattle.sf_report.specs.declared.outcome.Status.{Status}
use Rattle.sf_report.specs.declared.outcome.Status.TheVariants.{Done, MatchingFailure, TooLong, NoMemory}
use Rattle.sf_run.specs.declared.scanner.Stop.{Stop}
use Rattle.sf_report.specs.Steps.{StepEnd, Passes, Stores, Misses, Fails, IsSkipUnder}
use Rattle.sf_report.specs.Runs.{Ran, RunReport, report_of, bytes_used}
use Rattle.sf_report.specs.Limits.{IsCut, TellsWithin, RunRefused}
use Rattle.sf_report.specs.Limits.{StoresAt, StoresBy, StoresColumn, StoresShape}
use Rattle.sf_report.specs.Machine.{Stage, Skipping, Taken, Item, stepped, finished, number_end, integer_end, real_at, real_end, stored_end}
use Rattle.sf_report.specs.Machine.{passed_end, item_end, column_end, column_finished, conversion_finished, empty_end, finished_by}
use Rattle.sf_report.specs.Machine as start
use Rattle.sf_report.specs.Residual.{Tally, nothing_yet, out_of, by_end, one_from, run_of, run_past, stepped_all, with_used}
use Rattle.sf_run.specs.Phases.{Shows}
use Rattle.sf_run.specs.Standing.{Standing, Keeps, Advances, After, Comes, Does, DoesBy, Follows, Gives, Refuses, RefusesIn, RunsOut}
use Rattle.sf_run.specs.Standing.{StoresAfter, ran_out, report_by}
use Rattle.sf_run.specs.Stopping.{is_memory_status, is_no_memory}
use Rattle.sf_run.specs.Texts.{IsInText, IsInTextBy, StoresByte, is_column, slot_of_text, taken_at}
use Rattle.sf_report.specs.Computed.{ran_of, skip}
use Rattle.sf_report.proofs.Skips.{skip_is, one_more-le}
use Rattle.sf_report.proofs.Machines.{some_is, by_option}
use Rattle.sf_report.proofs.Openness.{run_not_too_long}
use Rattle.sf_report.proofs.RunLaws.{ran_at, steps_only}
use Rattle.sf_report.proofs.Told.{run_told}
use Rattle.sf_run.proofs.Columns.{column_bytes}
use Rattle.sf_run.proofs.Coming.{comes_on, leading, same_front, showing}
use Rattle.sf_run.proofs.Moves.{refuses_on, too_long, waiting}
use Rattle.sf_run.proofs.Pieces.{stores_anywhere}
use Rattle.sf_run.proofs.Waits.{cut_here}

-- ---- no run by the definitions stops for want of memory, and no directive fails as Done

is_own : Status → Bool
is_own Done = false
is_own NoMemory = false
is_own _ = true

own_end : StepEnd → Bool
own_end Passes = true
own_end (Stores slot v) = true
own_end Misses = true
own_end (Fails status) = is_own status

number_own : (c : Conversion) (slot : ℕ) (v : Option ℤ) → own_end (number_end c slot v) ≡ true
unfolding own_end is_own
number_own c slot v = grind arith

stored_own : (c : Conversion) (slot : ℕ) (shape : Shape) (item : List ℕ) → own_end (stored_end c slot shape item) ≡ true
unfolding own_end is_own
stored_own c slot (Int numeral) item = by_number (integer_at numeral item)
  where
    by_number : (o : Option (Bool × ℕ)) → own_end (integer_end c slot o) ≡ true
    by_number None = refl
    by_number (Some i) = number_own c slot (value_of c.kind i.0 i.1)
stored_own c slot (Float lead) item = by_real (real_at c.kind item)
  where
    by_real : (o : Option real.Real) → own_end (real_end slot o) ≡ true
    by_real None = refl
    by_real (Some r) = refl
stored_own c slot (Text lead) item = refl
stored_own c slot (Set members) item = refl
stored_own c slot Chars item = refl
stored_own c slot Count item = refl

item_own : (c : Conversion) (item : List ℕ) → own_end (item_end c item) ≡ true
unfolding own_end is_own
item_own c item = by_match (matches c item) c.slot
  where
    by_match : (v : Bool) (slot : Option ℕ) → own_end (cond v (passed_end c slot item) (Fails MatchingFailure)) ≡ true
    by_match false slot = refl
    by_match true None = refl
    by_match true (Some slot) = stored_own c slot c.shape item

-- what a conversion that has this gives
passed_own : (c : Conversion) (item : List ℕ) (slot : Option ℕ) → own_end (passed_end c slot item) ≡ true
unfolding own_end is_own
passed_own c item None = refl
passed_own c item (Some slot) = stored_own c slot c.shape item

empty_own : (c : Conversion) (more : Bool) → own_end (empty_end c more) ≡ true
unfolding own_end is_own
empty_own c more = grind arith

column_own : (c : Conversion) (f : List ℕ) → own_end (column_end c f) ≡ true
unfolding own_end is_own
column_own c f = by_text (are_white f) (fills c (column_text c f))
  where
    by_text : (v w : Bool) → own_end (cond v (empty_end c true) (cond w (passed_end c c.slot (column_text c f)) (Fails MatchingFailure)))
        ≡ true
    by_text true w = empty_own c true
    by_text false true = passed_own c (column_text c f) c.slot
    by_text false false = refl

finish_column : (c : Conversion) (q : Stage) (more : Bool) → own_end (column_finished c q more) ≡ true
unfolding own_end is_own
finish_column c Skipping more = empty_own c more
finish_column c Taken more = refl
finish_column c (Item f) more = column_own c f

finish_item : (c : Conversion) (q : Stage) (n : ℕ) (more : Bool) → own_end (conversion_finished c c.shape q n more) ≡ true
unfolding own_end is_own
finish_item c q n more = grind (arith, number_own, item_own)

finish_by : (c : Conversion) (v : Bool) (q : Stage) (n : ℕ) (more : Bool) → own_end (finished_by v c q n more) ≡ true
finish_by c true q n more = finish_column c q more
finish_by c false q n more = finish_item c q n more

finish_own : (d : Directive) (q : Stage) (n : ℕ) (more : Bool) → own_end (finished d q n more) ≡ true
unfolding own_end is_own
finish_own d q n more = grind (arith, finish_by)

one_own : (d : Directive) (q : Stage) (n : ℕ) (x : List ℕ) → own_end (one_from d q n x).end ≡ true
one_own d q n [] = finish_own d q n false
one_own d q n (b ∷ x) = by_option (λ p. own_end p.end ≡ true) (stepped d q b) _ _ (finish_own d q n true) (λ r. one_own d r (n + 1) x)

own_status : (status : Status) → own_end (Fails status) ≡ true → is_memory_status status ≡ false
unfolding own_end is_own
own_status status e = grind arith

own_not_done : (end : StepEnd) (status : Status) → own_end end ≡ true → end ≡ Fails status → status ≡ Done → ⊥
unfolding own_end is_own
own_not_done end status own is done = true≢false (sym own ∙ ap own_end is ∙ ap is_own done)

pub never_done : (d : Directive) (q : Stage) (n : ℕ) (x : List ℕ) (status : Status) → (one_from d q n x).end ≡ Fails status → status ≡ Done
    → ⊥
never_done d q n x status is done = own_not_done (one_from d q n x).end status (one_own d q n x) is done

end_fine : (end : StepEnd) (y : RunReport) (f : Status → RunReport) → own_end end ≡ true → is_memory_status y.status ≡ false
    → ((status : Status) → (f status).status ≡ status)
    → is_memory_status (by_end end y f).status ≡ false
end_fine end y f own h same = grind (arith, own_status)

past_fine : (m : Option ℕ) (ds : List Directive) (at k : ℕ) (t : Tally) (x : List ℕ)
    → is_memory_status (run_past m ds at k t x).status ≡ false
past_fine m [] at k t x = refl
past_fine m (d ∷ ds) at zero t x = grind (arith, end_fine, one_own, past_fine m ds)
past_fine m (d ∷ ds) at (suc k) t x = past_fine m ds (at + 1) k t x

pub run_fine : (m : Option ℕ) (ds : List Directive) (at : ℕ) (t : Tally) (x : List ℕ) → is_memory_status (run_of m ds at t x).status ≡ false
run_fine m ds at t x = past_fine m ds at 0 t x

-- a scanner that is after some bytes has not run out
pub after_fine : (ds : List Directive) (m : ℕ) (s : Standing) (x : List ℕ) → After ds m s x → ran_out s ≡ false
after_fine ds m s x h = by_case s.ended refl
  where
    by_case : (o : Option Stop) → s.ended ≡ o → is_no_memory o ≡ false
    by_case None e = refl
    by_case (Some stop) e = ap (λ (r : RunReport). is_memory_status r.status) (sym (cut_here ds m s x h stop e))
        ∙ run_fine (Some m) ds 1 nothing_yet x

-- ---- white space before a text

skip_before : (u : List ℕ) (b : ℕ) (v : List ℕ) → is_white b ≡ false → skip (u ++ b ∷ v) ≤ length u
skip_before [] b v e = rw e (omega arith)
skip_before (x ∷ u) b v e = one_more-le (is_white x) (skip (u ++ b ∷ v)) (length u) (skip_before u b v e)

drop_front : (n : ℕ) (u v : List ℕ) → n ≤ length u → (drop n (u ++ v) ≡ drop n u ++ v) × (length (drop n u) + n ≡ length u)
drop_front n u v h = grind (arith, common_steps)

is_some_of : (o : Option ℕ) (n : ℕ) → o ≡ Some n → IsSome o
is_some_of o n e = ap is_some e

skip_under : (lead : Lead) (u : List ℕ) (b : ℕ) (v : List ℕ) (j : ℕ) → is_white b ≡ false → length u ≡ j
    → (s : ℕ) × IsSkipUnder lead (u ++ b ∷ v) s × (s ≤ j)
skip_under Any u b v j text all = let low = skip_before u b v text in (skip (u ++ b ∷ v), skip_is (u ++ b ∷ v), omega (arith, low, all))
skip_under Minus u b v j text all = (0, refl, omega arith)
skip_under Nothing u b v j text all = (0, refl, omega arith)

stores_shape : (shape : Shape) (slot : Option ℕ) (n : ℕ) (b : ℕ) (u v : List ℕ) (j : ℕ) → slot_of_text shape slot ≡ Some n
    → IsInText shape b → length u ≡ j
    → StoresShape shape slot (u ++ b ∷ v) j
stores_shape (Int numeral) slot n b u v j e text all = cc
stores_shape Count slot n b u v j e text all = cc
stores_shape (Set members) slot n b u v j e text all = (is_some_of slot n e, (0, refl, omega arith))
stores_shape Chars slot n b u v j e text all = (is_some_of slot n e, (0, refl, omega arith))
stores_shape (Float lead) slot n b u v j e text all = (is_some_of slot n e, skip_under lead u b v j text all)
stores_shape (Text lead) slot n b u v j e text all = (is_some_of slot n e, skip_under lead u b v j text all)

-- a column is past the white space at its front by the first byte that is none
skip_column : (u : List ℕ) (b : ℕ) (v : List ℕ) → are_white (u ++ b ∷ []) ≡ false → skip (u ++ b ∷ v) ≤ length u
skip_column [] b v ink = by (is_white b) ink
  where
    by : (w : Bool) → (w && true) ≡ false → cond w (suc (skip v)) 0 ≤ 0
    by true e = absurd cc
    by false e = omega arith
skip_column (x ∷ u) b v ink = by (is_white x) ink (skip_column u b v)
  where
    by : (w : Bool) → (w && are_white (u ++ b ∷ [])) ≡ false
        → (are_white (u ++ b ∷ []) ≡ false → skip (u ++ b ∷ v) ≤ length u) → cond w (suc (skip (u ++ b ∷ v))) 0 ≤ suc (length u)
    by true e less = (let h = less e in omega (arith, h))
    by false e less = omega arith

stores_column : (shape : Shape) (slot : Option ℕ) (n : ℕ) (b : ℕ) (u v : List ℕ) (j : ℕ) → slot_of_text shape slot ≡ Some n
    → are_white (u ++ b ∷ []) ≡ false → length u ≡ j
    → StoresColumn shape slot (u ++ b ∷ v) j
stores_column shape slot n b u v j e ink all = by shape e
  where
    past : (s : ℕ) × IsSkip (u ++ b ∷ v) s × (s ≤ j)
    past = let low = skip_column u b v ink in (skip (u ++ b ∷ v), skip_is (u ++ b ∷ v), omega (arith, low, all))

    by : (shape : Shape) → slot_of_text shape slot ≡ Some n → StoresColumn shape slot (u ++ b ∷ v) j
    by (Int numeral) e = absurd cc
    by Count e = absurd cc
    by (Set members) e = (is_some_of slot n e, past)
    by Chars e = (is_some_of slot n e, past)
    by (Float lead) e = (is_some_of slot n e, past)
    by (Text lead) e = (is_some_of slot n e, past)

stores_by : (c : Conversion) (column : Bool) (n : ℕ) (b : ℕ) (u v : List ℕ) (j : ℕ) → slot_of_text c.shape c.slot ≡ Some n
    → IsInTextBy column c.shape u b → length u ≡ j
    → StoresBy column c (u ++ b ∷ v) j
stores_by c true n b u v j e text all = stores_column c.shape c.slot n b u v j e text all
stores_by c false n b u v j e text all = stores_shape c.shape c.slot n b u v j e text all

stores_at : (d : Directive) (b : ℕ) (u v : List ℕ) (j : ℕ) → StoresByte d u b → length u ≡ j → StoresAt d (u ++ b ∷ v) j
stores_at (Conv c) b u v j h all = stores_by c c.column h.0 b u v j h.1 h.2 all
stores_at Space b u v j h all = absurd h
stores_at (Byte a) b u v j h all = absurd h
stores_at Percent b u v j h all = absurd h
stores_at (Opens o) b u v j h all = absurd h

-- ---- the report

-- what would be too long by the byte b of a text is refused there
pub run_refused : (ds : List Directive) → AreProper ds → (m k : ℕ) (x u rest z : List ℕ) (b at : ℕ) (d : Directive) (t : Tally)
    → x ≡ u ++ b ∷ (rest ++ z) → length u ≡ k → k < m
    → slice_get ds at ≡ Some d → StoresAfter ds at d u b rest → TellsWithin ds k x (out_of TooLong (at + 1) t)
    → RunRefused ds m x (out_of NoMemory (at + 1) t)
run_refused ds proper m k x u rest z b at d t is all below place stores (inl w) =
    let fits : bytes_used w.0 ≤ k = w.2 in
    let full : run_of None ds 1 nothing_yet x ≡ report_of w.0 None = run_told ds proper x w.0 w.1 in
    absurd (run_not_too_long ds 1 nothing_yet x (ap (λ (r : RunReport). r.status) (full ∙ sym w.3)))
run_refused ds proper m k x u rest z b at d t is all below place stores (inr w) =
    let v : List ℕ = rest ++ z in
    let before = w.0 in
    let cut : IsCut ds x k before = w.1 in
    let low : bytes_used before ≤ k = cut.low in
    let same : at + 1 ≡ length before + 1 = ap (λ (r : RunReport). r.at) w.2 in
    let here : at ≡ length before = omega (arith, same) in
    let own : cut.cut.directive ≡ d =
    some_is _ _ (sym (ran_at ds x 0 before cut.cut cut.rest cut.steps) ∙ ap (slice_get ds) (sym here) ∙ place) in
    let front = drop_front (bytes_used before) u (b ∷ v) (omega (arith, low, all)) in
    let tail : drop (bytes_used before) x ≡ drop (bytes_used before) u ++ b ∷ v = ap (drop (bytes_used before)) is ∙ front.0 in
    let left = front.1 in
    let count = stores.count in
    let steps_are : before ++ (cut.cut ∷ cut.rest) ≡ stores.before ++ ran_of (drop at ds) (drop (bytes_used stores.before) u ++ b ∷ v)
    (bytes_used stores.before) = steps_only ds proper x 0 _ cut.steps ∙ ap (λ y. ran_of ds y 0) is ∙ stores.steps z in
    let same_steps : stores.before ≡ before = sym (same_front before stores.before _ _ (omega (arith, here, count)) steps_are) in (
      k,
      below,
      (
        before,
        cut,
        subst (λ (e : Directive). StoresAt e (drop (bytes_used before) x) (k - bytes_used before)) (sym own)
            (subst (λ y. StoresAt d y (k - bytes_used before)) (sym tail)
            (stores_at d b (drop (bytes_used before) u) v (k - bytes_used before)
            (subst (λ (l : List Ran). StoresByte d (drop (bytes_used l) u) b) same_steps stores.stores)
            (omega (arith, left, all, low)))),
        ap (λ (r : RunReport). record r { status = NoMemory }) w.2,
      ),
    )

-- ---- the move that is refused

-- what a directive stores after bytes that brought it to a stage
stores_led : (d : Directive) (q : Stage) (left y : List ℕ) (b : ℕ) → stepped_all d start.Skipping left ≡ Some q
    → StoresByte d (taken_at q ++ y) b → StoresByte d (left ++ y) b
stores_led d q left y b led h = by (is_column d) refl
  where
    by : (v : Bool) → is_column d ≡ v → StoresByte d (left ++ y) b
    by false plain = stores_anywhere d (taken_at q ++ y) (left ++ y) b plain h
    by true column = subst (λ t. StoresByte d (t ++ y) b) (column_bytes d column left q led) h

-- the storing of a byte of the item was refused
pub runs_out_refuses : (new old : Standing) (d : Directive) (before item : ℕ) (piece : List ℕ)
    → slice_get old.directives old.passed ≡ Some d → old.ended ≡ None → RunsOut new old before item
    → before + item ≤ length piece → old.tally.used + (before + item) ≤ old.limit
    → ((q : Stage) → Shows d old.phase q → (z : List ℕ) → old.tally.used + (before + item)
    ≤ (one_from d q old.tally.used (piece ++ z)).used)
    → ((q : Stage) → Shows d old.phase q → (j : ℕ) → j < item
    → StoresByte d (taken_at q ++ take (before + j) piece) (get_or piece (before + j) 0)) → RefusesIn new old piece
runs_out_refuses new old d before item piece at waits r within limit uses stores = record {
  front = take i piece;
  byte = get_or piece i 0;
  rest = drop (i + 1) piece;
  at = old.passed;
  directive = d;
  whole = whole;
  used = used_is ∙ ap (λ n. old.tally.used + n) (sym (length-take-le i piece (omega (arith, below))));
  refuses = λ z. record {
    under_way = ap (λ ds. slice_get ds old.passed) r.keeps.directives ∙ at;
    ended = r.ended;
    below = (let l = r.keeps.limit in let s = r.short in let u = used_is in omega (arith, limit, l, s, u));
    cut = λ report does.
        let own : DoesBy None old.directives old.passed old.phase old.opened old.tally new.tally.used (piece ++ z) report =
        waiting old new.tally.used (piece ++ z) report waits does in
        too_long old.directives old.passed d at old.phase old.opened old.tally new.tally.used (piece ++ z) report own
        (λ q showing. let all = uses q showing z in let s = r.short in let u = used_is in omega (arith, all, s, u))
        ∙ ap (λ n. out_of TooLong (old.passed + 1) (with_used n old.tally)) used_is ∙ ap (out_of TooLong (old.passed + 1)) (sym r.tally);
  };
  stores = λ x h.
      let on : drop (bytes_used h.before) (x ++ take i piece) ≡ drop (bytes_used h.before) x ++ take i piece =
      drop-append-le (bytes_used h.before) x (take i piece) h.within in
      record {
        before = h.before;
        count = h.count;
        within = (let w = h.within in omega (arith, w, length-append x (take i piece)));
        steps = λ z.
            ap (λ (y : List ℕ). ran_of old.directives y 0) (append_assoc x (take i piece) (get_or piece i 0 ∷ (drop (i + 1) piece ++ z))
            ∙ ap (λ y. x ++ y) (parts z))
            ∙ h.steps z
            ∙ ap (λ (y : List ℕ). h.before ++ ran_of (drop old.passed old.directives) y (bytes_used h.before))
            (ap (λ y. drop (bytes_used h.before) x ++ y) (sym (parts z))
            ∙ sym (append_assoc (drop (bytes_used h.before) x) (take i piece) (get_or piece i 0 ∷ (drop (i + 1) piece ++ z)))
            ∙ ap (λ y. y ++ get_or piece i 0 ∷ (drop (i + 1) piece ++ z)) (sym on));
        stores = subst (λ u. StoresByte d u (get_or piece i 0)) (sym on)
            (stores_led d h.stage (drop (bytes_used h.before) x) (take i piece) (get_or piece i 0)
            (leading old.directives old.passed d at old.phase old.opened old.tally.used x piece h)
            (stores h.stage (showing old.directives old.passed d at old.phase old.opened old.tally.used x piece h).0 r.stored r.short));
      };
}
  where
    i : ℕ
    i = before + r.stored

    used_is : new.tally.used ≡ old.tally.used + i
    used_is = ap (λ (t : Tally). t.used) r.tally

    below : i < length piece
    below = (let s = r.short in omega (arith, s, within))

    whole : piece ≡ take i piece ++ get_or piece i 0 ∷ drop (i + 1) piece
    whole = sym (take-append-drop i piece) ∙ ap (λ (l : List ℕ). take i piece ++ l) (drop_more piece i 0 below)

    parts : (z : List ℕ) → take i piece ++ get_or piece i 0 ∷ (drop (i + 1) piece ++ z) ≡ piece ++ z
    parts z = sym (append_assoc (take i piece) (get_or piece i 0 ∷ drop (i + 1) piece) z) ∙ ap (λ (y : List ℕ). y ++ z) (sym whole)

-- a byte that is refused after the first of a piece
pub refused_behind : (old mid new : Standing) (xs : List ℕ) (i : ℕ) → i ≤ length xs → new.limit ≡ old.limit
    → mid.directives ≡ old.directives → mid.ended ≡ None
    → mid.tally.used ≡ old.tally.used + i → ((z : List ℕ) → Follows mid old (drop i xs ++ z) (xs ++ z))
    → Advances mid old xs i → RefusesIn new mid (drop i xs) → RefusesIn new old xs
unfolding Advances
refused_behind old mid new xs i within limit format waits used_is first advances w = record {
  front = take i xs ++ w.front;
  byte = w.byte;
  rest = w.rest;
  at = w.at;
  directive = w.directive;
  whole = sym (take-append-drop i xs) ∙ ap (λ l. take i xs ++ l) w.whole ∙ sym (append_assoc (take i xs) w.front (w.byte ∷ w.rest));
  used = (let u = w.used in omega (arith, u, used_is, length-append (take i xs) w.front, length-take-le i xs within));
  refuses = λ z. refuses_on old mid new w.at w.directive w.byte (drop i xs ++ z) (xs ++ z)
      (let u = w.used in omega (arith, u)) limit (first z) (w.refuses z);
  stores = λ x h.
      let there : Comes mid (x ++ take i xs) (drop i xs) = advances x h waits in
      subst (λ (l : List Directive). StoresAfter l w.at w.directive (x ++ (take i xs ++ w.front)) w.byte w.rest) format
      (subst (λ y. StoresAfter mid.directives w.at w.directive y w.byte w.rest) (append_assoc x (take i xs) w.front)
      (w.stores (x ++ take i xs) there));
}

-- a scanner for which a storing was refused has that report, however the input goes on
pub refused_gives : (ds : List Directive) (m : ℕ) (old new : Standing) (x piece z : List ℕ) (ending : Ending) → After ds m old x
    → old.ended ≡ None → Keeps new old
    → RefusesIn new old piece → Gives ds m new ((x ++ piece) ++ z) ending
refused_gives ds m old new x piece z ending h waits keeps w = record {
  report = out_of NoMemory (w.at + 1) new.tally;
  is = ap (λ o. report_by o new.tally new.met) r.ended ∙ ap (λ o. report_by
      (Some (record { status = NoMemory; at = w.at + 1 })) new.tally o) (keeps.met ∙ h.fed);
  right = inr (subst (λ y. RunRefused ds m y (out_of NoMemory (w.at + 1) new.tally)) (sym (append_assoc x piece z))
      (run_refused ds h.proper m new.tally.used (x ++ (piece ++ z)) (x ++ w.front)
      w.rest z w.byte w.at w.directive new.tally whole all below place stores
      (subst (TellsWithin ds new.tally.used (x ++ (piece ++ z))) cut told.2)));
}
  where
    r : Refuses new old w.at w.directive w.byte (piece ++ z)
    r = w.refuses z

    stores : StoresAfter ds w.at w.directive (x ++ w.front) w.byte w.rest
    stores = subst (λ (l : List Directive). StoresAfter l w.at w.directive (x ++ w.front) w.byte w.rest) h.format
        (w.stores x (comes_on old x piece (subst (λ (o : Option Stop). IfNone o (Comes old x [])) waits h.come)))

    old_used : old.tally.used ≡ length x
    old_used = subst (λ (o : Option Stop). IfNone o (old.tally.used ≡ length x)) waits h.all

    all : length (x ++ w.front) ≡ new.tally.used
    all = let a = old_used in let u = w.used in omega (arith, a, u, length-append x w.front)

    below : new.tally.used < m
    below = let b = r.below in let a = keeps.limit in let l = h.limit in omega (arith, a, b, l)

    place : slice_get ds w.at ≡ Some w.directive
    place = ap (λ l. slice_get l w.at) (sym (keeps.directives ∙ h.format)) ∙ r.under_way

    whole : x ++ (piece ++ z) ≡ (x ++ w.front) ++ w.byte ∷ (w.rest ++ z)
    whole = ap (λ p. x ++ (p ++ z)) w.whole ∙ ap (λ p. x ++ p) (append_assoc w.front (w.byte ∷ w.rest) z)
        ∙ sym (append_assoc x w.front (w.byte ∷ (w.rest ++ z)))

    told : (report : RunReport) × Does old new.tally.used (piece ++ z) report × TellsWithin ds new.tally.used (x ++ (piece ++ z)) report
    told = h.same new.tally.used (piece ++ z) (let u = w.used in omega (arith, u)) (let b = below in omega (arith, b))

    cut : told.0 ≡ out_of TooLong (w.at + 1) new.tally
    cut = r.cut told.0 told.1
