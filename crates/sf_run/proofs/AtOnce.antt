-- Runs that begin and pass within a piece.
use Rattle.std.proofs.lemmas.Grind.{common_steps}
use Rattle.std.proofs.Common.{suc, ◌≡◌, ℕ, ◌+◌, ◌-◌, ◌<◌, ◌≤◌, Bool, true, false, cond, List, [], ◌∷◌, ◌++◌, length, take, drop}
use Rattle.std.proofs.Common.{Option, Some, None}
use Rattle.std.proofs.Common.{refl, sym, ap, subst, ◌∙◌, arith, is_some, length-drop, true≢false}
use Rattle.std.specs.Prelude.{◌≢◌, slice_get, ℤ}
use Rattle.std.specs.List.{count_by}
use Rattle.std.proofs.lemmas.List.Sums.{sum_by_more}
use Rattle.std.proofs.lemmas.Option.{get_or_from_slice_get, slice_get_within}
use Rattle.std.proofs.lemmas.List.{append-nil, append_assoc, drop-drop, length-append, take_all, take-append-drop}
use Rattle.sf_base.specs.Blanks.{are_white}
use Rattle.sf_base.specs.Data.{Assigned, Bytes, Real as RealOf, value_of}
use Rattle.sf_base.specs.declared.real.Real as real
use Rattle.sf_base.specs.stores.Kept.{Kept, Opened, nothing_kept, text_of, texts_in, with_text, with_value}
use Rattle.sf_format.specs.declared.directive.Shape.{Shape}
use Rattle.sf_format.specs.declared.directive.Shape.TheVariants.{Int, Text, Set, Chars, Float, Count}
use Rattle.sf_format.specs.declared.directive.Conversion.{Conversion}
use Rattle.sf_format.specs.declared.directive.Directive.{Directive}
use Rattle.sf_format.specs.declared.directive.Directive.TheVariants.{Space, Byte, Percent, Conv, Opens}
use Rattle.sf_item.specs.ColumnTests.{column_text, fills}
use Rattle.sf_item.specs.Tests.{integer_at}
use Rattle.sf_format.specs.Layout.{assigns_item, is_item, items_assigned, items_taken, takes_item}
use Rattle.sf_format.specs.Proper.{AreProper, IsColumned, TakesColumn, destinations_of, is_opener, is_optional, more_of, slots_of}
use Rattle.sf_format.specs.Slots.{AreSlots}
use Rattle.sf_run.specs.declared.directive.Finished.{Finished}
use Rattle.sf_run.specs.declared.directive.Ended.{Ended}
use Rattle.sf_report.specs.declared.outcome.Ending.{Ending}
use Rattle.sf_report.specs.declared.outcome.Outcome.{Outcome}
use Rattle.sf_report.specs.declared.outcome.Status.{Status}
use Rattle.sf_report.specs.declared.outcome.Status.TheVariants.{Done, MatchingFailure}
use Rattle.sf_run.specs.declared.tally.Tally as code
use Rattle.sf_run.specs.Holding.{are_among, are_apart, are_placed}
use Rattle.sf_report.specs.Limits.{RunWithin, TellsWithin}
use Rattle.sf_report.specs.Memory.{HoldsValues}
use Rattle.sf_report.specs.Machine.{Stage, Skipping, Taken, Item, byte_finished, column_end, column_finished, conversion_finished}
use Rattle.sf_report.specs.Machine.{empty_end}
use Rattle.sf_report.specs.Machine.{finished, finished_by, integer_end, number_end, passed_end, real_at, real_end, stepped, stored_end}
use Rattle.sf_report.specs.Machine.{text_end}
use Rattle.sf_run.specs.Phases.{end_of, is_failing, is_missing, slot_given}
use Rattle.sf_run.specs.declared.directive.EndedColumn.{EndedColumn}
use Rattle.sf_run.specs.Pieces.{EndsAtOnce, EndsIn, EndsWithAll}
use Rattle.sf_run.specs.Places.{is_destination}
use Rattle.sf_run.specs.Quick.{EndsSo, GivenSo, GivesTo, IsSure, MayBeGiven, Passes, PassesWithin, done_by, slot_stored, text_stored}
use Rattle.sf_run.specs.Quick.{ungiven_end}
use Rattle.sf_run.specs.Counting.{Counted, Few, Going, HasCome, none_missing}
use Rattle.sf_run.specs.declared.quick.Missing.{Missing}
use Rattle.sf_run.specs.declared.quick.Place.{Place}
use Rattle.sf_run.specs.declared.quick.Passage.{Passage}
use Rattle.sf_run.specs.declared.quick.PassageEnd.{PassageEnd}
use Rattle.sf_run.specs.declared.quick.PassageEnd.TheVariants as ends
use Rattle.sf_report.specs.Residual.{Part, Tally, counted, nothing_yet, one_from, out_of, run_of, run_past, then_on, with_used}
use Rattle.sf_report.specs.Runs.{IsOpen, RunReport, is_conversion, over, passed}
use Rattle.sf_run.specs.Standing.{passed_with}
use Rattle.sf_report.specs.Steps.{StepEnd, Passes as Passed, Stores, Misses, Fails}
use Rattle.sf_report.specs.Views.{report_by}
use Rattle.sf_run.specs.Tallies.{PassesSo, tally_of, values_with}
use Rattle.sf_run.specs.Texts.{IsSound, slot_of, slots_in}
use Rattle.sf_run.proofs.Groups.{count_on, drop_at, gone_most, kept_on, others, others_within, own_front, past_from, place_is}
use Rattle.sf_run.proofs.Moves.{place_taken}
use Rattle.sf_report.proofs.Openness.{within_limit}
use Rattle.sf_run.proofs.Slots.{given_more, given_on, joined_text, placed_from, slot_placed, slot_unused, slots_more, slots_none}
use Rattle.sf_report.proofs.Machines.{by_option}
use Rattle.sf_report.proofs.Told.{told_exists, uses_is, within_met}
use Rattle.sf_report.proofs.Inputs.{open_all}

-- ---- one directive

-- the slot of what it gives is its own
pub free_of : (slots : ℕ) (f : Finished) (d : Directive) (values : List Assigned)
    → (is_failing f ≡ false → is_missing f ≡ false → slot_given f ≡ slot_of d)
    → MayBeGiven slots (slot_of d) values → MayBeGiven slots (slot_given f) values
free_of slots f d values own free = grind arith

-- what it gives is its own slot's
own_slot : (d : Directive) (f : Finished) (text : List ℕ) → (is_failing f ≡ false → is_missing f ≡ false → slot_given f ≡ slot_of d)
    → passed (end_of text f) ≡ true → slot_stored (end_of text f) ≡ slot_of d
own_slot d f text own ok = grind arith

passing_within : (d : Directive) (n : ℕ) (piece : List ℕ) (taken : ℕ) (f : Finished) (text : List ℕ) (stores : Bool) (old new : Kept)
    → EndsIn d Skipping n piece taken (end_of text f) → (is_failing f ≡ false → is_missing f ≡ false → slot_given f ≡ slot_of d)
    → GivesTo (end_of text f) stores old new → PassesWithin d n piece taken stores old new
passing_within d n piece taken f text stores old new ends own gives = record {
  end = end_of text f;
  takes = ends;
  gives = gives;
  own = own_slot d f text own gives.passes.passes;
}

pub passes_within : (d : Directive) (n : ℕ) (piece : List ℕ) (e : Ended) (stores : Bool) (old new : Kept) → IsSound d
    → EndsAtOnce d n piece e
    → GivesTo (end_of (take e.item (drop e.before piece)) e.finished) stores old new
    → PassesWithin d n piece (e.before + e.item) stores old new
passes_within d n piece e stores old new sound is gives =
    passing_within d n piece (e.before + e.item) e.finished (take e.item (drop e.before piece)) stores old new (is.ends sound) is.fits.given
    gives

pub passes_with_all : (d : Directive) (n : ℕ) (piece : List ℕ) (e : EndedColumn) (stores : Bool) (old new : Kept) → IsSound d
    → EndsWithAll d n piece e
    → GivesTo (end_of (take e.ended.item (drop e.ended.before piece)) e.ended.finished) stores old new
    → PassesWithin d n piece (e.ended.before + e.ended.item + e.after) stores old new
passes_with_all d n piece e stores old new sound is gives =
    passing_within d n piece (e.ended.before + e.ended.item + e.after) e.ended.finished (take e.ended.item (drop e.ended.before piece))
    stores old new (is.ends sound) is.fits.given gives

-- one that surely ends, and ends so, gives something for which a store with so much room has room
pub sure_text : (d : Directive) (n : ℕ) (piece : List ℕ) (room : ℕ) (e : EndedColumn) → IsSound d → EndsWithAll d n piece e
    → IsSure d n piece room → length (text_stored (end_of (take e.ended.item (drop e.ended.before piece)) e.ended.finished)) ≤ room
sure_text d n piece room e sound is sure =
    subst (λ (p : Part). length (text_stored p.end) ≤ room) ((is.ends sound).takes sure.after) sure.fits

-- one that passes within the piece
pub ends_passing : (d : Directive) (n : ℕ) (piece : List ℕ) (taken : ℕ) (old new : Kept) → Passes d n piece taken old new
    → EndsSo d n piece (record { taken = taken; end = ends.Passes }) old new
ends_passing d n piece taken old new w = record { end = w.1.end; takes = w.1.takes; gives = (w.0, w.1.gives, w.1.own) }

given_nothing : (how : PassageEnd) (d : Directive) (end : StepEnd) (old new : Kept) → how ≢ ends.Passes → end ≡ ungiven_end how
    → new ≡ old → GivenSo how d end old new
given_nothing ends.Passes d end old new other is same = absurd (other refl)
given_nothing ends.Misses d end old new other is same = (is, same)
given_nothing (ends.Fails status) d end old new other is same = (is, same)

-- one that ends so, and gives nothing
pub ends_giving_nothing : (d : Directive) (n : ℕ) (piece : List ℕ) (e : EndedColumn) (how : PassageEnd) (old new : Kept) → IsSound d
    → EndsWithAll d n piece e → how ≢ ends.Passes
    → end_of (take e.ended.item (drop e.ended.before piece)) e.ended.finished ≡ ungiven_end how → new ≡ old
    → EndsSo d n piece (record { taken = e.ended.before + e.ended.item + e.after; end = how }) old new
ends_giving_nothing d n piece e how old new sound is other gives same =
    let end : StepEnd = end_of (take e.ended.item (drop e.ended.before piece)) e.ended.finished in
    record { end = end; takes = is.ends sound; gives = given_nothing how d end old new other gives same }

-- a text that the store was given is what the directive gives
pub text_given : (slot : ℕ) (text : List ℕ) (room : ℕ) (old new : Kept) → new ≡ with_text slot text room old
    → GivesTo (Stores slot (Bytes text)) true old new
text_given slot text room old new is = grind (arith, joined_text)

-- so is a float
pub real_given : (slot : ℕ) (r : real.Real) (old new : Kept) → old.opened ≡ None → new ≡ with_value slot (RealOf r) old
    → GivesTo (Stores slot (RealOf r)) true old new
real_given slot r old new none is = grind (arith, common_steps, joined_text)

-- ---- directive after directive

-- a directive that ends so doesn't fail
abbrev pub goes : StepEnd → Bool
goes (Fails status) = false
goes _ = true

-- it takes the run on
goes_on : (d : Directive) (ds : List Directive) (at : ℕ) (t : Tally) (x y : List ℕ) (taken : ℕ) (end : StepEnd) → goes end ≡ true
    → one_from d Skipping t.used x ≡ record { used = t.used + taken; left = y; end = end }
    → run_of None (d ∷ ds) at t x ≡ run_past None ds (at + 1) (over d end) (counted d end (with_used (t.used + taken) t)) y
goes_on d ds at t x y taken end ok is = grind arith

-- the slots of the values are those of the directives that have passed
pub some_slot : (ds : List Directive) (p : ℕ) (d : Directive) (values : List Assigned) (end : StepEnd) → slice_get ds p ≡ Some d
    → slot_stored end ≡ slot_of d → passed end ≡ true
    → slots_in values ≡ slots_of (take p ds) → slots_in (values_with end values) ≡ slots_of (take (p + 1) ds)
some_slot ds p d values end at own ok given = grind (arith, slots_none, slots_more)

-- they are among those of the directives that have ended
some_given : (ds : List Directive) (p : ℕ) (d : Directive) (values : List Assigned) (end : StepEnd) → slice_get ds p ≡ Some d
    → slot_stored end ≡ slot_of d → passed end ≡ true → are_among (slots_in values) (slots_of (take p ds)) ≡ true
    → are_among (slots_in (values_with end values)) (slots_of (take (p + 1) ds)) ≡ true
some_given ds p d values Passed at own ok given = given_on ds p d values at given
some_given ds p d values (Stores slot v) at own ok given = given_more ds p d values slot v at (sym own) given
some_given ds p d values Misses at own ok given = absurd (true≢false (sym ok))
some_given ds p d values (Fails status) at own ok given = absurd (true≢false (sym ok))

passed_goes : (end : StepEnd) → passed end ≡ true → goes end ≡ true
passed_goes end ok = grind arith

-- the next directive has ended so, and the store has these values
going_on : (ds : List Directive) (front : List ℕ) (p : ℕ) (d : Directive) (t u : code.Tally) (old new : Kept) (piece : List ℕ)
    (taken : ℕ) (end : StepEnd) → slice_get ds p ≡ Some d
    → Going ds front p t old → piece ≡ drop t.used front → EndsIn d Skipping t.used piece taken end → goes end ≡ true
    → new.values ≡ values_with end old.values → new.opened ≡ None → new.closed ≡ texts_in new.values
    → are_among (slots_in (values_with end old.values)) (slots_of (take (passed_with ds p d end) ds)) ≡ true
    → tally_of u (values_with end old.values) ≡ counted d end (with_used (t.used + taken) (tally_of t old.values))
    → u.used ≡ t.used + taken → Going ds front (passed_with ds p d end) u new
going_on ds front p d t u old new piece taken end at h is takes ok values opened joined given tally used =
    let rest : List ℕ = drop t.used front in
    let behind : taken ≤ length rest = subst (λ y. taken ≤ length y) is takes.within in
    let left : length rest ≡ length front - t.used = length-drop t.used front in
    let low = h.within in
    record {
      same = λ z.
          let next : List ℕ = drop u.used front in
          let place : drop taken piece ≡ next = ap (drop taken) is ∙ drop-drop taken t.used front ∙ ap (λ n. drop n front) (sym used) in
          let step : one_from d Skipping t.used (rest ++ z) ≡ record { used = t.used + taken; left = next ++ z; end = end } =
          ap (λ y. one_from d Skipping t.used (y ++ z)) (sym is) ∙ takes.takes z
          ∙ ap (λ (y : List ℕ). record { used = t.used + taken; left = y ++ z; end = end }) place in
          h.same z ∙ ap (λ l. run_of None l (p + 1) (tally_of t old.values) (rest ++ z)) (drop_at ds p d at)
          ∙ goes_on d (drop (p + 1) ds) (p + 1) (tally_of t old.values) (rest ++ z) (next ++ z) taken end ok step
          ∙ past_from ds p d at None end (counted d end (with_used (t.used + taken) (tally_of t old.values))) (next ++ z)
          ∙ ap (λ v. run_of None (drop (passed_with ds p d end) ds) (passed_with ds p d end + 1) v (next ++ z))
          (sym tally ∙ ap (tally_of u) (sym values));
      within = omega (arith, used, behind, left, low);
      given = ap (λ v. are_among (slots_in v) (slots_of (take (passed_with ds p d end) ds))) values ∙ given;
      opened = opened;
      joined = joined;
    }

-- the totals with a directive that has passed, which counts as a conversion or not, and stores or not
abbrev totals : Bool → Bool → ℕ → code.Tally → code.Tally
totals v stores taken t = record {
  used = t.used + taken;
  assigned = cond stores (cond v (t.assigned + 1) t.assigned) t.assigned;
  converted = cond v (t.converted + 1) t.converted;
}

totals_counted : (d : Directive) (end : StepEnd) (stores : Bool) (taken : ℕ) (t : code.Tally) (values : List Assigned) → PassesSo end stores
    → tally_of (totals (is_conversion d) stores taken t) (values_with end values)
    ≡ counted d end (with_used (t.used + taken) (tally_of t values))
totals_counted d end stores taken t values so = grind arith

-- ---- what is counted

-- what a directive adds to a count
count_more : (q : Directive → Bool) (ds : List Directive) (p : ℕ) (d : Directive) → slice_get ds p ≡ Some d
    → count_by q (take (p + 1) ds) ≡ count_by q (take p ds) + cond (q d) 1 0
count_more q ds p d at =
    sum_by_more (λ e. cond (q e) 1 0) ds p d (slice_get_within ds p d at)
    ∙ ap (λ e. count_by q (take p ds) + cond (q e) 1 0) (get_or_from_slice_get ds p d d at)

assigns_more : (d : Directive) (end : StepEnd) (stores : Bool) (n : ℕ) → PassesSo end stores → slot_stored end ≡ slot_of d
    → cond stores (cond (is_conversion d) (n + 1) n) n ≡ n + cond (assigns_item d) 1 0
assigns_more d end stores n so own = grind arith

takes_more : (d : Directive) (n : ℕ) → cond (is_conversion d) (n + 1) n ≡ n + cond (takes_item d) 1 0
takes_more d n = grind arith

byte_given : (q : Stage) (more : Bool) → byte_finished q more ≡ Misses → ⊥
byte_given q more e = grind arith

-- an item that is missing is one that the directive takes, and it may be
misses_item : (c : Conversion) (q : Stage) (n : ℕ) (more : Bool) → conversion_finished c c.shape q n more ≡ Misses
    → (c.optional ≡ true) × (takes_item (Conv c) ≡ true)
misses_item c q n more e = grind arith

empty_misses : (c : Conversion) (more : Bool) → empty_end c more ≡ Misses → c.optional ≡ true
empty_misses c more e = grind arith

number_given : (c : Conversion) (slot : ℕ) (v : Option ℤ) → number_end c slot v ≡ Misses → ⊥
number_given c slot v e = grind arith

stored_given : (c : Conversion) (slot : ℕ) (shape : Shape) (t : List ℕ) → stored_end c slot shape t ≡ Misses → ⊥
stored_given c slot (Int numeral) t e = by (integer_at numeral t) e
  where
    by : (o : Option (Bool × ℕ)) → integer_end c slot o ≡ Misses → ⊥
    by None e = cc
    by (Some i) e = number_given c slot (value_of c.kind i.0 i.1) e
stored_given c slot (Float lead) t e = by (real_at c.kind t) e
  where
    by : (o : Option real.Real) → real_end slot o ≡ Misses → ⊥
    by None e = cc
    by (Some r) e = cc
stored_given c slot (Text lead) t e = cc
stored_given c slot (Set members) t e = cc
stored_given c slot Chars t e = cc
stored_given c slot Count t e = cc

passed_given : (c : Conversion) (slot : Option ℕ) (t : List ℕ) → passed_end c slot t ≡ Misses → ⊥
passed_given c None t e = cc
passed_given c (Some slot) t e = stored_given c slot c.shape t e

-- a column that has a text gives it or fails
text_given_only : (c : Conversion) (t : List ℕ) → text_end c t ≡ Misses → ⊥
text_given_only c t e = by (fills c t) e
  where
    by : (v : Bool) → cond v (passed_end c c.slot t) (Fails MatchingFailure) ≡ Misses → ⊥
    by true e = passed_given c c.slot t e
    by false e = cc

column_misses : (c : Conversion) (f : List ℕ) → column_end c f ≡ Misses → c.optional ≡ true
column_misses c f e = by (are_white f) e
  where
    by : (v : Bool) → cond v (empty_end c true) (text_end c (column_text c f)) ≡ Misses → c.optional ≡ true
    by true e = empty_misses c true e
    by false e = absurd (text_given_only c (column_text c f) e)

misses_column : (c : Conversion) (q : Stage) (more : Bool) → column_finished c q more ≡ Misses → c.optional ≡ true
misses_column c Skipping more e = empty_misses c more e
misses_column c Taken more e = absurd cc
misses_column c (Item f) more e = column_misses c f e

takes_by : (c : Conversion) (shape : Shape) → c.shape ≡ shape → IsColumned (Conv c) → c.column ≡ true → takes_item (Conv c) ≡ true
takes_by c Count e sound column = absurd (subst TakesColumn e (sound column).1)
takes_by c (Int numeral) e sound column = ap is_item e
takes_by c (Text lead) e sound column = ap is_item e
takes_by c (Set members) e sound column = ap is_item e
takes_by c Chars e sound column = ap is_item e
takes_by c (Float lead) e sound column = ap is_item e

misses_by : (c : Conversion) → IsColumned (Conv c) → (v : Bool) → c.column ≡ v → (q : Stage) (n : ℕ) (more : Bool)
    → finished_by v c q n more ≡ Misses → (c.optional ≡ true) × (takes_item (Conv c) ≡ true)
misses_by c sound true column q n more e = (misses_column c q more e, takes_by c c.shape refl sound column)
misses_by c sound false plain q n more e = misses_item c q n more e

-- it takes an item, or opens a group
abbrev MayBeMissed : Directive → Type 0
MayBeMissed d = (is_optional d ≡ true) × ((is_opener d ≡ false) → takes_item d ≡ true)

misses_only : (d : Directive) → IsColumned d → (q : Stage) (n : ℕ) (more : Bool) → finished d q n more ≡ Misses → MayBeMissed d
misses_only (Conv c) sound q n more e = let own = misses_by c sound c.column refl q n more e in (own.0, λ none. own.1)
misses_only (Opens o) sound q n more e = (refl, λ none. absurd cc)
misses_only Space sound q n more e = absurd cc
misses_only (Byte b) sound q n more e = absurd (byte_given q more e)
misses_only Percent sound q n more e = absurd (byte_given q more e)

pub one_misses : (d : Directive) → IsColumned d → (q : Stage) (n : ℕ) (x : List ℕ) → (one_from d q n x).end ≡ Misses
    → (is_optional d ≡ true) × (is_opener d ≡ false → takes_item d ≡ true)
one_misses d sound q n [] e = misses_only d sound q n false e
one_misses d sound q n (b ∷ x) e = by_option (λ p. p.end ≡ Misses → MayBeMissed d) (stepped d q b) _ _
    (misses_only d sound q n true) (λ r. one_misses d sound r (n + 1) x) e

abbrev one_if : Bool → ℕ
one_if v = cond v 1 0

assigns_taken : (d : Directive) → takes_item d ≡ true → assigns_item d ≡ is_some (slot_of d)
assigns_taken d takes = grind arith

assigns_destination : (d : Directive) → assigns_item d ≡ true → is_destination d ≡ true
assigns_destination d is = grind arith

-- ---- the first directives of a format

few_more : (ds : List Directive) (p : ℕ) (d : Directive) → slice_get ds p ≡ Some d → Few ds p → Few ds (p + 1)
few_more ds p d at h =
    let given = count_more assigns_item ds p d at in
    let taken = count_more takes_item ds p d at in
    let place = place_taken ds p d (assigns_item d) at (assigns_destination d) in
    let assigned = h.assigned in
    let converted = h.converted in
    let one : cond (takes_item d) 1 0 ≤ 1 = grind arith in
    record { assigned = omega (arith, given, place, assigned); converted = omega (arith, taken, one, converted) }

-- what the run used so far
pub used_is : (ds : List Directive) (front tail : List ℕ) (p : ℕ) (missing : Missing) (kept : Kept)
    → (h : Counted ds front tail p missing kept) → h.tally.used ≡ length front - length tail
used_is ds front tail p missing kept h =
    let low = h.going.within in
    let short = ap length h.rest ∙ length-drop h.tally.used front in
    omega (arith, short, low)

-- nothing is missing with one that passes
place_passed : (ds : List Directive) (p : ℕ) (d : Directive) (end : StepEnd) → passed end ≡ true → passed_with ds p d end ≡ p + 1
place_passed ds p d Passed ok = refl
place_passed ds p d (Stores slot v) ok = refl
place_passed ds p d Misses ok = absurd (true≢false (sym ok))
place_passed ds p d (Fails status) ok = refl

-- the next directive has passed
pub counting_on : (ds : List Directive) (front rest left : List ℕ) (p : ℕ) (d : Directive) (n : ℕ) (missing : Missing) (old new : Kept)
    (taken : ℕ) → slice_get ds p ≡ Some d
    → (h : Counted ds front rest p missing old) → n ≡ length front - length rest → Passes d n rest taken old new
    → left ≡ drop taken rest → Counted ds front left (p + 1) missing new
counting_on ds front rest left p d n missing old new taken at h begins w on =
    let t : code.Tally = h.tally in
    let v : Bool = is_conversion d in
    let stores : Bool = w.0 in
    let u : code.Tally = totals v stores taken t in
    let here : n ≡ t.used = begins ∙ sym (used_is ds front rest p missing old h) in
    let is : PassesWithin d t.used rest taken stores old new = subst (λ m. PassesWithin d m rest taken stores old new) here w.1 in
    let so : PassesSo is.end stores = is.gives.passes in
    let assigned' = assigns_more d is.end stores t.assigned so is.own in
    let converted' = takes_more d t.converted in
    let given = count_more assigns_item ds p d at in
    let taken' = count_more takes_item ds p d at in
    let assigned = h.assigned in
    let converted = h.converted in
    record {
      tally = u;
      going = subst (λ q. Going ds front q u new) (place_passed ds p d is.end so.passes)
          (going_on ds front p d t u old new rest taken is.end at h.going h.rest is.takes (passed_goes is.end so.passes)
          is.gives.values is.gives.opened (is.gives.joined h.going.joined)
          (subst (λ q. are_among (slots_in (values_with is.end old.values)) (slots_of (take q ds)) ≡ true)
          (sym (place_passed ds p d is.end so.passes)) (some_given ds p d old.values is.end at is.own so.passes h.going.given))
          (totals_counted d is.end stores taken t old.values so) refl);
      rest = on ∙ ap (drop taken) h.rest ∙ drop-drop taken t.used front;
      short = grind (arith, length-drop, on, (h.short));
      assigned = omega (arith, assigned', given, assigned);
      converted = omega (arith, converted', taken', converted);
      few = few_more ds p d at h.few;
    }

-- it is missing, with others
pub counting_missing : (ds : List Directive) (front rest left : List ℕ) (p : ℕ) (d : Directive) (n : ℕ) (missing more : Missing)
    (gone : List Directive) (old new : Kept) (taken : ℕ) → slice_get ds p ≡ Some d → (h : Counted ds front rest p missing old)
    → n ≡ length front - length rest → EndsIn d Skipping n rest taken Misses → new ≡ old → left ≡ drop taken rest
    → gone ≡ take (suc (more_of d)) (drop p ds) → more.assigned ≡ missing.assigned + items_assigned gone
    → more.converted ≡ missing.converted + items_taken gone → Counted ds front left (p + length gone) more new
counting_missing ds front rest left p d n missing more gone old new taken at h begins takes same on all assigned' converted' =
    let t : code.Tally = h.tally in
    let u : code.Tally = record { used = t.used + taken; assigned = t.assigned; converted = t.converted } in
    let here : n ≡ t.used = begins ∙ sym (used_is ds front rest p missing old h) in
    let is : EndsIn d Skipping t.used rest taken Misses = subst (λ m. EndsIn d Skipping m rest taken Misses) here takes in
    let with : List Directive = others ds p d at Misses in
    let whole : gone ≡ d ∷ with = all ∙ ap (take (suc (more_of d))) (drop_at ds p d at) in
    let size : p + length gone ≡ p + 1 + length with = (let long = ap length whole in omega (arith, long)) in
    let place : passed_with ds p d Misses ≡ p + length gone = place_is ds p d at Misses ∙ sym size in
    let within : p + 1 + length with ≤ length ds = others_within ds p d at Misses in
    let own : gone ≡ take (length gone) (drop p ds) = own_front gone (suc (more_of d)) (drop p ds) all in
    let given = count_on assigns_item ds p (length gone) ∙ ap (λ l. items_assigned (take p ds) + items_assigned l) (sym own) in
    let taken' = count_on takes_item ds p (length gone) ∙ ap (λ l. items_taken (take p ds) + items_taken l) (sym own) in
    let assigned = h.assigned in
    let converted = h.converted in
    record {
      tally = u;
      going = subst (λ q. Going ds front q u new) place
          (going_on ds front p d t u old new rest taken Misses at h.going h.rest is refl (ap (λ (k : Kept). k.values) same)
          (ap (λ (k : Kept). k.opened) same ∙ h.going.opened)
          (subst (λ (k : Kept). k.closed ≡ texts_in k.values) (sym same) h.going.joined)
          (subst (λ q. are_among (slots_in old.values) (slots_of (take q ds)) ≡ true) (sym (place ∙ size))
          (kept_on (λ q. are_among (slots_in old.values) (slots_of (take q ds)) ≡ true) ds
          (λ q e there. given_on ds q e old.values there) (length with) (p + 1) within (given_on ds p d old.values at h.going.given)))
          refl refl);
      rest = on ∙ ap (drop taken) h.rest ∙ drop-drop taken t.used front;
      short = grind (arith, length-drop, on, (h.short));
      assigned = omega (arith, assigned', given, assigned);
      converted = omega (arith, converted', taken', converted);
      few = subst (Few ds) (sym size) (kept_on (Few ds) ds (λ q e there. few_more ds q e there) (length with) (p + 1) within
          (few_more ds p d at h.few));
    }

-- the same by how it ended
pub counting : (ds : List Directive) (front rest left : List ℕ) (p : ℕ) (d : Directive) (n : ℕ) (missing : Missing) (old new : Kept)
    (passage : Passage) → slice_get ds p ≡ Some d → Counted ds front rest p missing old
    → n ≡ length front - length rest → EndsSo d n rest passage old new → left ≡ drop passage.taken rest
    → (passage.end ≡ ends.Passes → Counted ds front left (p + 1) missing new)
    × ((more : Missing) (gone : List Directive) → passage.end ≡ ends.Misses → gone ≡ take (suc (more_of d)) (drop p ds)
    → more.assigned ≡ missing.assigned + items_assigned gone
    → more.converted ≡ missing.converted + items_taken gone → Counted ds front left (p + length gone) more new)
counting ds front rest left p d n missing old new passage at h begins w on = (
  λ is. (let so : GivenSo ends.Passes d w.end old new = subst (λ how. GivenSo how d w.end old new) is w.gives in
      counting_on ds front rest left p d n missing old new passage.taken at h begins
      (so.0, record { end = w.end; takes = w.takes; gives = so.1; own = so.2 }) on),
  λ more gone is all assigned converted.
      (let so : GivenSo ends.Misses d w.end old new = subst (λ how. GivenSo how d w.end old new) is w.gives in
      counting_missing ds front rest left p d n missing more gone old new passage.taken at h begins
      (subst (λ end. EndsIn d Skipping n rest passage.taken end) so.0 w.takes) so.1 on all assigned converted),
)

-- the same of what is the same
pub counted_as : (ds : List Directive) (front tail : List ℕ) (p : ℕ) (one missing : Missing) (new kept : Kept) → one ≡ missing
    → new ≡ kept → Counted ds front tail p missing kept → Counted ds front tail p one new
counted_as ds front tail p one missing new kept e f h =
    subst (λ m. Counted ds front tail p m new) (sym e) (subst (λ k. Counted ds front tail p missing k) (sym f) h)

-- the slot of the next directive is free
pub free_at : (slots : ℕ) (ds : List Directive) (p : ℕ) (d : Directive) (values : List Assigned) → slice_get ds p ≡ Some d
    → are_placed slots ds ≡ true → are_apart (slots_of ds) ≡ true
    → are_among (slots_in values) (slots_of (take p ds)) ≡ true → MayBeGiven slots (slot_of d) values
free_at slots ds p d values at placed apart given = grind (arith, slot_placed, slot_unused)

-- the slots of a format are those of a store with as many
pub placed : (slots : ℕ) (ds all : List Directive) → ds ≡ all → length (destinations_of all) ≤ slots → AreSlots (destinations_of ds)
    → are_placed slots ds ≡ true
placed slots ds all is many known =
    let same = ap (λ (l : List Directive). length (destinations_of l)) is in
    placed_from _ slots _ (omega (arith, many, same)) known.each

-- ---- the end

-- the report of a run that ends so and met no end, with these counts
abbrev pub told : Status → ℕ → ℕ → ℕ → ℕ → List Assigned → RunReport
told status at used assigned converted values =
    out_of status at (record { used = used; assigned = assigned; converted = converted; values = values })

-- past the last directive
all_passed : (ds : List Directive) (p : ℕ) (x : List ℕ) (t : Tally) → length ds ≤ p → run_of None (drop p ds) (p + 1) t x ≡ out_of Done 0 t
all_passed ds p x t h = grind (arith, common_steps)

-- a run that is the same however the input goes on is the report
ended_is : (ds : List Directive) → AreProper ds → (m : ℕ) (x : List ℕ) (ending : Ending) (status : Status) (at : ℕ) (t : Tally)
    → ((z : List ℕ) → run_of None ds 1 nothing_yet (x ++ z) ≡ out_of status at t)
    → t.used ≤ m → t.used ≤ length x → RunWithin ds m x ending (out_of status at t)
ended_is ds proper m x ending status at t same fits within =
    let here : run_of None ds 1 nothing_yet x ≡ out_of status at t =
    ap (run_of None ds 1 nothing_yet) (sym (append-nil x)) ∙ same [] in
    let used : (run_of None ds 1 nothing_yet x).used ≡ t.used = ap (λ (r : RunReport). r.used) here in
    let cut : run_of (Some m) ds 1 nothing_yet x ≡ out_of status at t =
    within_limit m ds 1 nothing_yet x (omega (arith, used, fits)) ∙ here in
    within_met open_all ds proper m x ending None (out_of status at t)
    (subst (λ r. TellsWithin ds m x r) cut (told_exists ds proper m x)) closed
  where
    closed : IsOpen ds x × (length x ≤ m) → ⊥
    closed o =
        let long : (run_of None ds 1 nothing_yet (x ++ o.0.0 ∷ [])).used ≡ length x + 1 =
        uses_is ds proper (x ++ o.0.0 ∷ []) (length x + 1) o.0.2 in
        let short : (run_of None ds 1 nothing_yet (x ++ o.0.0 ∷ [])).used ≡ t.used = ap (λ (r : RunReport). r.used) (same (o.0.0 ∷ [])) in
        omega (arith, long, short, within)

-- what was read within a front of a piece is the report of each input that begins with the piece
sure_is : (ds : List Directive) → AreProper ds → (m most : ℕ) (piece front : List ℕ) (status : Status) (at : ℕ) (t : Tally)
    → front ≡ take most piece → length front ≤ m → t.used ≤ length front
    → ((z : List ℕ) → run_of None ds 1 nothing_yet (front ++ z) ≡ out_of status at t)
    → (z : List ℕ) (ending : Ending) → RunWithin ds m (piece ++ z) ending (out_of status at t)
sure_is ds proper m most piece front status at t is fits low same z ending =
    let rest : List ℕ = drop most piece ++ z in
    let whole : front ++ rest ≡ piece ++ z = ap (λ y. y ++ rest) is ∙ sym (append_assoc (take most piece) (drop most piece) z)
    ∙ ap (λ y. y ++ z) (take-append-drop most piece) in
    let long : length (front ++ rest) ≡ length front + length rest = length-append front rest in
    subst (λ y. RunWithin ds m y ending (out_of status at t)) whole
    (ended_is ds proper m (front ++ rest) ending status at t
    (λ y. ap (run_of None ds 1 nothing_yet) (append_assoc front rest y) ∙ same (rest ++ y))
    (omega (arith, low, fits)) (omega (arith, low, long)))

-- ---- the whole run

-- before the first directive
pub nothing_counted : (ds : List Directive) (front : List ℕ) (kept : Kept) (room : ℕ) → kept ≡ nothing_kept room
    → length (destinations_of ds) ≤ 32 → Counted ds front front 0 (record { assigned = 0; converted = 0 }) kept
nothing_counted ds front kept room is few = subst (λ k. Counted ds front front 0 (record { assigned = 0; converted = 0 }) k) (sym is)
    (record {
      tally = record { used = 0; assigned = 0; converted = 0 };
      going = record {
        same = λ z. refl;
        within = omega arith;
        given = refl;
        opened = refl;
        joined = refl;
      };
      rest = refl;
      short = omega arith;
      assigned = refl;
      converted = refl;
      few = record { assigned = omega (arith, few); converted = omega arith };
    })

-- that of an outcome
pub told_by : (o : Outcome) (values : List Assigned) (status : Status) (at used assigned converted : ℕ) → o.status ≡ status → o.at ≡ at
    → o.used ≡ used → o.assigned ≡ assigned → o.converted ≡ converted → o.met ≡ None
    → told status at used assigned converted values ≡ report_by o values
told_by o values status at used assigned converted is_status is_at is_used is_assigned is_converted is_met = grind arith

same_told : (status : Status) (at used used' assigned assigned' converted converted' : ℕ) (values : List Assigned) → used ≡ used'
    → assigned ≡ assigned' → converted ≡ converted'
    → told status at used assigned converted values ≡ told status at used' assigned' converted' values
same_told status at used used' assigned assigned' converted converted' values e f g =
    ap (λ n. told status at n assigned converted values) e ∙ ap (λ n. told status at used' n converted values) f
    ∙ ap (λ n. told status at used' assigned' n values) g

-- past the last directive the run is Done, and counts all items but those that are missing
pub counted_done : (ds : List Directive) → AreProper ds → (m most : ℕ) (piece front rest : List ℕ) (missing : Missing) (kept : Kept)
    (p : ℕ) → length ds ≤ p → front ≡ take most piece → length front ≤ m → Counted ds front rest p missing kept → (z : List ℕ)
    (ending : Ending) → RunWithin ds m (piece ++ z) ending (told Done 0 (length front - length rest)
    (items_assigned ds - missing.assigned) (items_taken ds - missing.converted) kept.values)
counted_done ds proper m most piece front rest missing kept p all is fits h z ending =
    let t : code.Tally = h.tally in
    let assigned' = h.assigned ∙ ap items_assigned (take_all p ds all) in
    let converted' = h.converted ∙ ap items_taken (take_all p ds all) in
    subst (λ r. RunWithin ds m (piece ++ z) ending r)
    (same_told Done 0 t.used (length front - length rest) t.assigned (items_assigned ds - missing.assigned) t.converted
    (items_taken ds - missing.converted) kept.values (used_is ds front rest p missing kept h) (omega (arith, assigned'))
    (omega (arith, converted')))
    (sure_is ds proper m most piece front Done 0 (tally_of t kept.values) is fits h.going.within
    (λ y. h.going.same y ∙ all_passed ds p _ (tally_of t kept.values) all) z ending)

-- a directive that fails ends the run
fails_on : (d : Directive) (ds : List Directive) (at : ℕ) (t : Tally) (x y : List ℕ) (n : ℕ) (status : Status)
    → one_from d Skipping t.used x ≡ record { used = n; left = y; end = Fails status }
    → run_of None (d ∷ ds) at t x ≡ out_of status at (with_used n t)
fails_on d ds at t x y n status is = ap (λ q. then_on None d at t q (run_past None ds (at + 1))) is

-- where the next directive fails, the run counts the items before it but those that are missing
pub counted_failed : (ds : List Directive) → AreProper ds → (m most n : ℕ) (piece front rest : List ℕ) (missing : Missing)
    (old new : Kept) (p : ℕ) (d : Directive) (passage : Passage) (status : Status) → slice_get ds p ≡ Some d → front ≡ take most piece
    → length front ≤ m → (h : Counted ds front rest p missing old) → n ≡ length front - length rest → EndsSo d n rest passage old new
    → passage.end ≡ ends.Fails status → (z : List ℕ) (ending : Ending)
    → RunWithin ds m (piece ++ z) ending (told status (p + 1) (n + passage.taken)
    (items_assigned (take p ds) - missing.assigned) (items_taken (take p ds) - missing.converted) new.values)
counted_failed ds proper m most n piece front rest missing old new p d passage status at is fits h begins w how z ending =
    let t : code.Tally = h.tally in
    let used : ℕ = t.used + passage.taken in
    let u : Tally = with_used used (tally_of t old.values) in
    let so : GivenSo (ends.Fails status) d w.end old new = subst (λ e. GivenSo e d w.end old new) how w.gives in
    let here : n ≡ t.used = begins ∙ sym (used_is ds front rest p missing old h) in
    let takes : EndsIn d Skipping t.used rest passage.taken (Fails status) =
    subst (λ m. EndsIn d Skipping m rest passage.taken (Fails status)) here
    (subst (λ end. EndsIn d Skipping n rest passage.taken end) so.0 w.takes) in
    let within = takes.within in
    let low = h.going.within in
    let short = ap length h.rest ∙ length-drop t.used front in
    let assigned' = h.assigned in
    let converted' = h.converted in
    subst (λ r. RunWithin ds m (piece ++ z) ending r)
    (ap (out_of status (p + 1)) (ap (λ v. record u { values = v }) (ap (λ (k : Kept). k.values) (sym so.1)))
    ∙ same_told status (p + 1) used (n + passage.taken) t.assigned (items_assigned (take p ds) - missing.assigned) t.converted
    (items_taken (take p ds) - missing.converted) new.values (omega (arith, here)) (omega (arith, assigned'))
    (omega (arith, converted')))
    (sure_is ds proper m most piece front status (p + 1) u is fits (omega (arith, within, low, short))
    (λ y. h.going.same y ∙ ap (λ l. run_of None l (p + 1) (tally_of t old.values) (drop t.used front ++ y)) (drop_at ds p d at)
    ∙ fails_on d (drop (p + 1) ds) (p + 1) (tally_of t old.values) (drop t.used front ++ y) (drop passage.taken rest ++ y) used status
    (ap (λ x. one_from d Skipping t.used (x ++ y)) (sym h.rest) ∙ takes.takes y)) z ending)

-- a run that misses no item is the report with the counts of the format
pub counted_run : (ds : List Directive) → AreProper ds → (m most : ℕ) (piece front rest : List ℕ) (kept : Kept) (p : ℕ)
    → length ds ≤ p → front ≡ take most piece → length front ≤ m
    → Counted ds front rest p (record { assigned = 0; converted = 0 }) kept → (z : List ℕ) (ending : Ending)
    → RunWithin ds m (piece ++ z) ending (done_by ds (length front - length rest) kept.values)
counted_run ds proper m most piece front rest kept p all is fits h z ending =
    let used : ℕ = length front - length rest in
    subst (λ r. RunWithin ds m (piece ++ z) ending r)
    (same_told Done 0 used used (items_assigned ds - 0) (items_assigned ds) (items_taken ds - 0) (items_taken ds) kept.values refl
    (omega arith) (omega arith))
    (counted_done ds proper m most piece front rest (record { assigned = 0; converted = 0 }) kept p all is fits h z ending)

-- ---- from place to place

-- the store then holds the values alone
pub values_held : (kept : Kept) → kept.opened ≡ None → kept.closed ≡ texts_in kept.values → HoldsValues kept
values_held kept opened joined = record {
  opened = opened;
  joined = ap (λ (o : Option Opened). kept.closed ++ text_of o) opened ∙ append-nil kept.closed ∙ joined;
}

-- the bytes after a place
pub after_place : (front : List ℕ) (used : ℕ) → used ≤ length front → used ≡ length front - length (drop used front)
after_place front used low = let left = length-drop used front in omega (arith, left, low)

-- before the first directive
pub come_start : (ds : List Directive) (front : List ℕ) (kept : Kept) (room n : ℕ) → kept ≡ nothing_kept room
    → length (destinations_of ds) ≤ 32 → n ≡ length ds → HasCome ds front (record { left = n; used = 0 }) none_missing kept
come_start ds front kept room n is few all =
    let none : 0 ≡ length ds - n = omega (arith, all) in
    subst (λ p. Counted ds front front p none_missing kept) none (nothing_counted ds front kept room is few)

-- where the rest is what stands after a place, the run has come there
pub come_of : (ds all : List Directive) (front rest : List ℕ) (p : ℕ) (from place : Place) (missing : Missing) (old kept new : Kept)
    → new ≡ kept → ds ≡ all → p ≡ length ds - place.left → place.used ≡ length front - length rest
    → (HasCome ds front from missing old → Counted ds front rest p missing kept)
    → HasCome all front from missing old → HasCome all front place missing new
come_of ds all front rest p from place missing old kept new same is here used on come =
    let h : Counted ds front rest p missing kept = on (subst (λ (l : List Directive). HasCome l front from missing old) (sym is) come) in
    let tail : rest ≡ drop place.used front = h.rest ∙ ap (λ n. drop n front) (used_is ds front rest p missing kept h ∙ sym used) in
    subst (λ (l : List Directive). HasCome l front place missing new) is
    (counted_as ds front (drop place.used front) (length ds - place.left) missing missing new kept refl same
    (subst (λ (y : List ℕ). Counted ds front y (length ds - place.left) missing kept) tail
    (subst (λ n. Counted ds front rest n missing kept) here h)))

-- the next directive has ended so
pub come_on : (ds : List Directive) (front : List ℕ) (place next : Place) (d : Directive) (missing : Missing) (old new : Kept)
    (passage : Passage) (ended : ℕ) → slice_get ds (length ds - place.left) ≡ Some d → 0 < place.left → place.left ≤ length ds
    → place.used ≤ length front → HasCome ds front place missing old
    → EndsSo d place.used (drop place.used front) passage old new → next.left ≡ place.left - ended → next.used ≡ place.used + passage.taken
    → (passage.end ≡ ends.Passes → ended ≡ 1 → HasCome ds front next missing new)
    × ((more : Missing) (gone : List Directive) → passage.end ≡ ends.Misses → ended ≡ length gone
    → gone ≡ take (suc (more_of d)) (drop (length ds - place.left) ds) → more.assigned ≡ missing.assigned + items_assigned gone
    → more.converted ≡ missing.converted + items_taken gone → HasCome ds front next more new)
come_on ds front place next d missing old new passage ended at some most low h w left used =
    let p : ℕ = length ds - place.left in
    let on : drop next.used front ≡ drop passage.taken (drop place.used front) =
    ap (λ n. drop n front) used ∙ sym (drop-drop passage.taken place.used front) in
    let both = counting ds front (drop place.used front) (drop next.used front) p d place.used missing old new
    passage at h (after_place front place.used low) w on in (
      λ is one. subst (λ n. Counted ds front (drop next.used front) n missing new) {x = p + 1} {y = length ds - next.left}
          (omega (arith, some, most, left, one)) (both.0 is),
      λ more gone is one all assigned converted.
          let few = ap length all in
          let rest = length-drop p ds in
          let within = gone_most (suc (more_of d)) (drop p ds) in
          subst (λ n. Counted ds front (drop next.used front) n more new) {x = p + length gone} {y = length ds - next.left}
          (grind (arith, some, most, left, one, few, rest, within)) (both.1 more gone is all assigned converted),
    )

-- what is missing with one fits the counts
pub gone_fits : (ds : List Directive) (front : List ℕ) (place : Place) (d : Directive) (missing : Missing) (kept : Kept)
    (gone : List Directive) → place.left ≤ length ds → gone ≡ take (suc (more_of d)) (drop (length ds - place.left) ds)
    → HasCome ds front place missing kept
    → (length gone ≤ place.left) × (missing.assigned + items_assigned gone ≤ 32) × (missing.converted + items_taken gone ≤ length ds)
gone_fits ds front place d missing kept gone most all h =
    let p : ℕ = length ds - place.left in
    let long = ap length all in
    let few = gone_most (suc (more_of d)) (drop p ds) in
    let rest = length-drop p ds in
    let short : length gone ≤ place.left = grind (arith, most, long, few, rest) in
    let own : gone ≡ take (length gone) (drop p ds) = own_front gone (suc (more_of d)) (drop p ds) all in
    let given = count_on assigns_item ds p (length gone) ∙ ap (λ l. items_assigned (take p ds) + items_assigned l) (sym own) in
    let taken = count_on takes_item ds p (length gone) ∙ ap (λ l. items_taken (take p ds) + items_taken l) (sym own) in
    let after : Few ds (p + length gone) = kept_on (Few ds) ds (λ q e there. few_more ds q e there) (length gone) p
    (omega (arith, short, most)) h.few in
    let most_assigned = after.assigned in
    let most_converted = after.converted in
    let assigned = h.assigned in
    let converted = h.converted in (
      short,
      omega (arith, given, most_assigned, assigned),
      omega (arith, taken, most_converted, converted, short, most),
    )

-- past the last directive, an outcome that counts so is that of the run
pub come_done : (ds : List Directive) → AreProper ds → (m most : ℕ) (piece front : List ℕ) (place : Place) (missing : Missing) (kept : Kept)
    (o : Outcome) → place.left ≡ 0 → place.used ≤ length front → front ≡ take most piece → length front ≤ m
    → HasCome ds front place missing kept → o.status ≡ Done → o.at ≡ 0 → o.used ≡ place.used
    → o.assigned ≡ items_assigned ds - missing.assigned → o.converted ≡ items_taken ds - missing.converted → o.met ≡ None
    → (z : List ℕ) (ending : Ending) → RunWithin ds m (piece ++ z) ending (report_by o kept.values)
come_done ds proper m most piece front place missing kept o none low is fits h status at used assigned converted met z ending =
    let rest : List ℕ = drop place.used front in
    let begins : length front - length rest ≡ o.used = sym (used ∙ after_place front place.used low) in
    subst (λ r. RunWithin ds m (piece ++ z) ending r)
    (same_told Done 0 (length front - length rest) o.used _ _ _ _ kept.values begins refl refl
    ∙ told_by o kept.values Done 0 o.used (items_assigned ds - missing.assigned) (items_taken ds - missing.converted)
    status at refl assigned converted met)
    (counted_done ds proper m most piece front rest missing kept (length ds - place.left) (omega (arith, none)) is fits h z ending)

-- so is one that counts so where the next directive fails
pub come_failed : (ds : List Directive) → AreProper ds → (m most : ℕ) (piece front : List ℕ) (place : Place) (missing : Missing)
    (old new : Kept) (d : Directive) (passage : Passage) (status : Status) (o : Outcome) → slice_get ds (length ds - place.left) ≡ Some d
    → place.used ≤ length front → front ≡ take most piece → length front ≤ m → HasCome ds front place missing old
    → EndsSo d place.used (drop place.used front) passage old new → passage.end ≡ ends.Fails status
    → o.status ≡ status → o.at ≡ length ds - place.left + 1 → o.used ≡ place.used + passage.taken
    → o.assigned ≡ items_assigned (take (length ds - place.left) ds) - missing.assigned
    → o.converted ≡ items_taken (take (length ds - place.left) ds) - missing.converted → o.met ≡ None
    → (z : List ℕ) (ending : Ending) → RunWithin ds m (piece ++ z) ending (report_by o new.values)
come_failed ds proper m most piece front place missing old new d passage status o here low is fits h w how is_status at used assigned
    converted met z ending =
    let p : ℕ = length ds - place.left in
    subst (λ r. RunWithin ds m (piece ++ z) ending r)
    (told_by o new.values status (p + 1) (place.used + passage.taken) (items_assigned (take p ds) - missing.assigned)
    (items_taken (take p ds) - missing.converted) is_status at used assigned converted met)
    (counted_failed ds proper m most place.used piece front (drop place.used front) missing old new p d passage status here is fits h
    (after_place front place.used low) w how z ending)
