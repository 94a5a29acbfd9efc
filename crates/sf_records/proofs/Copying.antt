-- Joined texts of fitting rows, and copies of copies.
use Rattle.std.proofs.Common.{◌≡◌, ℕ, ◌+◌, ◌<◌, ◌≤◌, Bool, true, false, ◌&&◌, nat_eq, cond, Option, Some, None, List, [], ◌∷◌, ◌++◌, map}
use Rattle.std.proofs.Common.{length, drop, inl, inr, refl, sym, ap, ap₂, subst, ◌∙◌, arith, append-nil, length-append, true≢false}
use Rattle.std.specs.List.{AllByRecursion, filter_map, flat_map}
use Rattle.std.proofs.lemmas.List.{drop_at}
use Rattle.std.proofs.lemmas.Bool.{le-leb, ne_eqb}
use Rattle.sf_base.specs.Data.{Assigned, Datum, datum_at}
use Rattle.sf_format.specs.declared.directive.Directive.{Directive}
use Rattle.sf_format.specs.declared.unit.Unit.{Unit as PrintUnit}
use Rattle.sf_format.specs.Proper.{destinations_of, has_optional}
use Rattle.sf_format.specs.Slots.{slots_from}
use Rattle.sf_pair.specs.Fits.{Fit, FitsIsFit, fits}
use Rattle.sf_pair.specs.Laws.{AlignedEndsOnNothing, AlignedSlotsAgree, PrintsSome, RoundTrip, read_back}
use Rattle.sf_print.specs.Printed.{most_bytes, printed}
use Rattle.sf_run.specs.outcome.Ending.{Ending}
use Rattle.sf_run.specs.outcome.Ending.TheVariants.{End}
use Rattle.sf_run.specs.outcome.Status.TheVariants.{Done}
use Rattle.sf_run.specs.Rows.{AreRowOf}
use Rattle.sf_run.specs.Runs.{RunReport}
use Rattle.sf_run.specs.Limits.{RunWithin}
use Rattle.sf_records.specs.declared.turn.Turn.{Turn}
use Rattle.sf_records.specs.declared.turn.Turn.TheVariants.{Goes, Ends, Cut, Failed, Stalled, Unfit, RanOut}
use Rattle.sf_records.specs.declared.end.ToolEnd.{ToolEnd}
use Rattle.sf_records.specs.declared.end.ToolFault.{ToolFault}
use Rattle.sf_records.specs.Copied.{IsPair, AreFitting, AreReadBack, GivesRows, IsReadBack, ReadsRows}
use Rattle.sf_records.specs.Copies.{copying, is_copied, row_of}
use Rattle.sf_records.specs.Lines.{scanning}
use Rattle.sf_records.specs.Records.{EndsWith, Passed, end_by, ended, most_records, uses}
use Rattle.sf_records.specs.Turns.{turn_of, fit_turn, writes}
use Rattle.sf_records.specs.Works.{Work, turn_in, texts}
use Rattle.sf_records.proofs.Passing.{fit_goes, other}

-- ---- what a pair gives

-- whatever follows the text of fitting values, a run on it gives them back
abbrev pub RoundTrips : List PrintUnit → List Directive → Type 0
RoundTrips units ds =
    (row : List Datum) → Fit units ds row → (m : ℕ) → length (printed units row) ≤ m → (z : List ℕ) (ending : Ending)
    → (r : RunReport) × RunWithin ds m (printed units row ++ z) ending r
    × IsReadBack (length (destinations_of ds)) (printed units row) row r

-- no such text is empty; and on the empty input the loop ends
pub record CarriesOver (units : List PrintUnit) (ds : List Directive) : Type 0 where
  pub back : RoundTrips units ds
  pub some : (row : List Datum) → Fit units ds row → 0 < length (printed units row)
  pub ends : (m : ℕ) → (r : RunReport) × RunWithin ds m [] End r × (turn_of (has_optional ds) r ≡ Ends) × (r.used ≡ 0)

pub carries_over : RoundTrip → AlignedSlotsAgree → PrintsSome → AlignedEndsOnNothing → (units : List PrintUnit) (ds : List Directive)
    → IsPair units ds → CarriesOver units ds
carries_over round_trip slots_agree prints_some ends_on_nothing units ds pair = record {
  back = λ row fit m short z ending.
      let run = round_trip units ds pair.printed pair.scanned pair.aligned row fit z ending in
      let agree = slots_agree units ds pair.printed pair.scanned pair.aligned row fit in (
        read_back units ds row,
        inl (short, run),
        record {
          status = refl;
          met = refl;
          used = refl;
          values = subst (λ (n : ℕ). AreRowOf n row (read_back units ds row).values)
              agree.count agree.row;
        },
      );
  some = λ row fit. prints_some units ds pair.printed pair.scanned pair.aligned row fit;
  ends = λ m.
      let nothing = ends_on_nothing units ds pair.scanned pair.aligned in (
        nothing.report,
        inl (omega (arith, nothing.used), nothing.run),
        rw (nothing.status, nothing.met, nothing.converted) refl,
        nothing.used,
      );
}

-- ---- values by slot

abbrev head_of : List (Option Datum) → Option Datum
head_of [] = None
head_of (x ∷ xs) = x

abbrev tail_of : List (Option Datum) → List (Option Datum)
tail_of [] = []
tail_of (x ∷ xs) = xs

somes : (at : ℕ → Option Datum) (slots : List ℕ) (row : List Datum) → map Some row ≡ map at slots → filter_map at slots ≡ row
somes at [] [] e = refl
somes at [] (v ∷ row) e = absurd (omega (arith, ap length e))
somes at (s ∷ slots) [] e = absurd (omega (arith, ap length e))
somes at (s ∷ slots) (v ∷ row) e =
    let first : at s ≡ Some v = sym (ap head_of e) in
    rw first (ap (λ vs. v ∷ vs) (somes at slots row (ap tail_of e)))

pub row_is : (n : ℕ) (row : List Datum) (values : List Assigned) → AreRowOf n row values → row_of n values ≡ row
row_is n row values e = somes (λ slot. datum_at slot values) (slots_from 1 n) row e

-- ---- turns

-- what was read back and has bytes is no last record
goes_back : (optional : Bool) (r : RunReport) → r.status ≡ Done → r.met ≡ None → 0 < r.used → turn_of optional r ≡ Goes
goes_back optional r done met some =
    let bytes : nat_eq r.used 0 ≡ false = ne_eqb r.used 0 (λ e. omega (arith, e, some)) in
    rw (done, met, bytes) refl

abbrev is_none : Option ToolFault → Bool
is_none None = true
is_none (Some fault) = false

no_fault : {A : Type 0} {fault : ToolFault} → Some fault ≡ None → A
no_fault e = absurd (true≢false (sym (ap is_none e)))

-- a clean end is an end at the end of the input
clean : (turn : Turn) (n : ℕ) (r : RunReport) → (end_by turn n r).fault ≡ None → turn ≡ Ends
clean Goes n r e = no_fault e
clean Ends n r e = refl
clean (Cut written) n r e = no_fault e
clean Failed n r e = no_fault e
clean Stalled n r e = no_fault e
clean Unfit n r e = no_fault e
clean RanOut n r e = no_fault e

-- a record that fits leaves the turn as it is
pub fit_is : (fit : Bool) (turn : Turn) → fit ≡ true → fit_turn fit turn ≡ turn
fit_is fit turn e = rw e (same (writes turn))
  where
    same : (b : Bool) → cond b turn turn ≡ turn
    same true = refl
    same false = refl

-- so does the end of the input
fit_ends : (fit : Bool) (turn : Turn) → turn ≡ Ends → fit_turn fit turn ≡ Ends
fit_ends fit turn e = ap (fit_turn fit) e

-- ---- joined texts

module _ (units : List PrintUnit) (ds : List Directive) (pair : CarriesOver units ds) (w : Work) (m : ℕ)
    (goes : (r : RunReport) (row : List Datum) → Fit units ds row → length (printed units row) ≤ m
    → IsReadBack (length (destinations_of ds)) (printed units row) row r → turn_in w ds r ≡ Goes)
  where
    abbrev n : ℕ
    n = length (destinations_of ds)

    abbrev join : List (List Datum) → List ℕ
    join rows = flat_map (printed units) rows

    record Read (rows : List (List Datum)) : Type 0 where
      pub reports : List RunReport
      pub are : AreReadBack n units rows reports
      pub passed : Passed w ds m (join rows) End reports []
      pub uses_are : uses reports ≡ length (join rows)
      pub count : length reports ≡ length rows

    read : (rows : List (List Datum)) → AreFitting units ds m rows → Read rows
    read [] fit = record { reports = []; are = tt; passed = refl; uses_are = refl; count = refl }
    read (row ∷ rows) fit =
        let one = pair.back row fit.0.0 m fit.0.1 (join rows) End in
        let later = read rows fit.1 in
        let rest : drop one.0.used (printed units row ++ join rows) ≡ join rows =
        drop_at (printed units row) (join rows) one.0.used (sym one.2.used) in
        record {
          reports = one.0 ∷ later.reports;
          are = (one.2, later.are);
          passed = (one.1, goes one.0 row fit.0.0 fit.0.1 one.2, subst (λ y. Passed w ds m y End later.reports []) (sym rest) later.passed);
          uses_are = omega (arith, one.2.used, later.uses_are, length-append (printed units row) (join rows));
          count = omega (arith, later.count);
        }

    pub reads_rows : (rows : List (List Datum)) → length rows < most_records → AreFitting units ds m rows → ReadsRows w units ds m rows
    reads_rows rows few fit =
        let all = read rows fit in
        let last = pair.ends m in
        let stops : turn_in w ds last.0 ≡ Ends = fit_ends (w.fits last.0) (turn_of (has_optional ds) last.0) last.2 in
        record {
          reports = all.reports;
          are = all.are;
          passed = all.passed;
          ends = record {
            written = all.reports;
            left = [];
            tail = [];
            spent = last.0.used;
            passed = all.passed;
            stops = inr (record {
              few = omega (arith, few, all.count);
              last = last.0;
              ran = last.1;
              stops = λ e. other {turn = Ends} refl (sym stops ∙ e);
              tail_is = ap (λ t. cond (writes t) (w.text last.0) []) (sym stops);
              spent_is = refl;
              end_is = ap (λ k. ended k None) {x = length rows} {y = 0 + length all.reports} (omega (arith, all.count))
                  ∙ ap (λ t. end_by t (0 + length all.reports) last.0) (sym stops);
            });
            output_is = sym (append-nil (texts w all.reports));
            used_is = omega (arith, all.uses_are, last.3);
          };
        }

-- ---- a scan and a copy of them

module _ (tests : FitsIsFit) (units : List PrintUnit) (ds : List Directive) (pair : CarriesOver units ds) where
  abbrev slots : ℕ
  slots = length (destinations_of ds)

  abbrev copies : Work
  copies = copying units ds

  abbrev given : RunReport → List Datum
  given r = row_of slots r.values

  back_goes : (r : RunReport) (row : List Datum) → Fit units ds row → IsReadBack slots (printed units row) row r
      → turn_of (has_optional ds) r ≡ Goes
  back_goes r row fit back = goes_back (has_optional ds) r back.status back.met (omega (arith, pair.some row fit, back.used))

  scan_goes : (m : ℕ) (r : RunReport) (row : List Datum) → Fit units ds row → length (printed units row) ≤ m
      → IsReadBack slots (printed units row) row r → turn_in (scanning ds) ds r ≡ Goes
  scan_goes m r row fit short back = fit_is true (turn_of (has_optional ds) r) refl ∙ back_goes r row fit back

  is_copied_so : (row : List Datum) → Fit units ds row → length (printed units row) ≤ most_bytes → is_copied units ds row ≡ true
  is_copied_so row fit short = ap₂ (λ a b. a && b) ((tests units ds row).1 fit) (le-leb (length (printed units row)) most_bytes short)

  copy_goes : (m : ℕ) → m ≤ most_bytes → (r : RunReport) (row : List Datum) → Fit units ds row → length (printed units row) ≤ m
      → IsReadBack slots (printed units row) row r → turn_in copies ds r ≡ Goes
  copy_goes m most r row fit short back =
      fit_is (copies.fits r) (turn_of (has_optional ds) r) (ap (is_copied units ds) (row_is slots row r.values back.values)
      ∙ is_copied_so row fit (omega arith)) ∙ back_goes r row fit back

  copied_texts : (rows : List (List Datum)) (rs : List RunReport) → AreReadBack slots units rows rs
      → texts copies rs ≡ flat_map (printed units) rows
  copied_texts [] [] are = refl
  copied_texts [] (r ∷ rs) are = absurd are
  copied_texts (row ∷ rows) [] are = absurd are
  copied_texts (row ∷ rows) (r ∷ rs) are =
      ap₂ (λ t u. t ++ u) (ap (printed units) (row_is slots row r.values are.0.values)) (copied_texts rows rs are.1)

  pub gives_rows : (m : ℕ) → m ≤ most_bytes → (rows : List (List Datum)) → length rows < most_records → AreFitting units ds m rows
      → GivesRows units ds m rows
  gives_rows m most rows few fit =
      let copied = reads_rows units ds pair copies m (copy_goes m most) rows few fit in
      record {
        scanned = reads_rows units ds pair (scanning ds) m (scan_goes m) rows few fit;
        copied = copied;
        same = copied_texts rows copied.reports copied.are;
      }

  -- ---- twice

  and_left : (a b : Bool) → a && b ≡ true → a ≡ true
  and_left true b e = refl
  and_left false b e = absurd (true≢false (sym e))

  fitting : (m most : ℕ) (ending : Ending) (x y : List ℕ) (rs : List RunReport) → Passed copies ds m x ending rs y
      → AllByRecursion (λ r. length (copies.text r) ≤ most) rs → AreFitting units ds most (map given rs)
  fitting m most ending x y [] passed short = tt
  fitting m most ending x y (r ∷ rs) passed short = (
    (
      (tests units ds (given r)).0 (and_left (fits units ds
          (given r)) _ (fit_goes (copies.fits r) (turn_of (has_optional ds) r) passed.1).1),
      short.0,
    ),
    fitting m most ending (drop r.used x) y rs passed.2 short.1,
  )

  texts_are : (rs : List RunReport) → texts copies rs ≡ flat_map (printed units) (map given rs)
  texts_are [] = refl
  texts_are (r ∷ rs) = ap (λ t. printed units (given r) ++ t) (texts_are rs)

  as_many : (rs : List RunReport) → length (map given rs) ≡ length rs
  as_many [] = refl
  as_many (r ∷ rs) = omega (arith, as_many rs)

  pub twice : (m : ℕ) (x output : List ℕ) (ending : Ending) (used : ℕ) (end : ToolEnd)
      (h : EndsWith copies ds m x ending output used end) → end.fault ≡ None
      → (most : ℕ) → most ≤ most_bytes → AllByRecursion (λ r. length (copies.text r) ≤ most) h.written
      → EndsWith copies ds most output End output (length output) end
  twice m x output ending used end h none most within short = elim h.stops [
    | inl full ↦ no_fault (sym (ap (λ (e : ToolEnd). e.fault) full.end_is) ∙ none)
    | inr stops ↦
        let turn : Turn = turn_in copies ds stops.last in
        let ends : turn ≡ Ends = clean turn (0 + length h.written) stops.last (sym (ap (λ (e : ToolEnd). e.fault) stops.end_is) ∙ none) in
        let nothing : h.tail ≡ [] = stops.tail_is ∙ ap (λ t. cond (writes t) (copies.text stops.last) []) ends in
        let rows : List (List Datum) = map given h.written in
        let is : output ≡ flat_map (printed units) rows = h.output_is ∙ ap (λ t. texts copies h.written ++ t) nothing
        ∙ append-nil (texts copies h.written) ∙ texts_are h.written in
        let clean_end : end ≡ ended (length rows) None =
        stops.end_is ∙ ap (λ t. end_by t (0 + length h.written) stops.last) ends
        ∙ ap (λ k. ended k None) {x = 0 + length h.written} {y = length rows} (omega (arith, as_many h.written)) in
        let again = gives_rows most within rows (omega (arith, stops.few, as_many h.written))
        (fitting m most ending x h.left h.written h.passed short) in
        let whole : EndsWith copies ds most (flat_map (printed units) rows) End (flat_map (printed units) rows)
        (length (flat_map (printed units) rows)) (ended (length rows) None) =
        subst (λ (o : List ℕ). EndsWith copies ds most (flat_map (printed units) rows) End o (length (flat_map (printed units) rows))
        (ended (length rows) None)) again.same again.copied.ends in
        subst (λ (e : ToolEnd). EndsWith copies ds most output End output (length output) e) (sym clean_end)
        (subst (λ (o : List ℕ). EndsWith copies ds most o End o (length o) (ended (length rows) None)) (sym is) whole)
  ]
