-- The records that a loop wrote are those of what its runs gave to the slots.
use Rattle.std.proofs.Common.{◌≡◌, ℕ, zero, suc, ◌+◌, Bool, true, false, cond, nat_eq, List, [], ◌∷◌, ◌++◌, length, map, take}
use Rattle.std.proofs.Common.{drop, ◌⊎◌, Option, Some, None, inl, inr, refl, sym, ap, ap₂, subst, ◌∙◌, arith, append-nil}
use Rattle.std.proofs.Common.{length-append, true≢false}
use Rattle.std.specs.List.{AllByRecursion, flat_map}
use Rattle.std.proofs.lemmas.Grind.{flat_map-append}
use Rattle.sf_base.specs.Bytes.{AreBytes}
use Rattle.sf_base.specs.Data.{Assigned, Datum, datum_at}
use Rattle.sf_format.specs.declared.directive.Directive.{Directive}
use Rattle.sf_format.specs.Proper.{IsAccepted, destinations_of, has_optional}
use Rattle.sf_format.specs.Slots.{slots_from}
use Rattle.sf_run.specs.outcome.Ending.{Ending}
use Rattle.sf_run.specs.outcome.Ending.TheVariants.{End, Fault}
use Rattle.sf_run.specs.outcome.Status.{Status}
use Rattle.sf_run.specs.outcome.Status.TheVariants.{Done, InputFailure, MatchingFailure, OutOfRange, TooLong, NoMemory}
use Rattle.sf_run.specs.Laws.{EachDoneRunFillsSlots, EachDoneRunHasItsRow}
use Rattle.sf_run.specs.Limits.{RunWithin}
use Rattle.sf_run.specs.Rows.{FillsSlots, given_to, kinds_of}
use Rattle.sf_run.specs.Runs.{RunReport}
use Rattle.sf_run.proofs.Values.{found_given}
use Rattle.sf_records.specs.declared.end.ToolEnd.{ToolEnd}
use Rattle.sf_records.specs.declared.turn.Turn.{Turn}
use Rattle.sf_records.specs.declared.turn.Turn.TheVariants.{Goes, Ends, Cut, Failed, Stalled, Unfit, RanOut}
use Rattle.sf_records.specs.Judging.{is_write}
use Rattle.sf_records.specs.ReadingBack.{AreDone, AreGivenRows, AreRows, AreWhole, HaveKinds, ReadsAsRows, RecordsReadBack, columns_of}
use Rattle.sf_records.specs.ReadingBack.{WrittenReadsBack, records_of, rows_given}
use Rattle.sf_forms.specs.ReadingBack.{HeadedRecordsAreGiven, IsGivenValue, TsvReadsBack}
use Rattle.sf_forms.specs.Forms.{given_row_text}
use Rattle.sf_forms.specs.Heads.{names_over}
use Rattle.sf_forms.specs.makers.Forms.{Heading, bare, writing_under}
use Rattle.sf_forms.proofs.Givens.{rows_given as texts_given}
use Rattle.sf_records.specs.Records.{EndsWith, IsCutShort, Passed, end_by, ending_by, input_by}
use Rattle.sf_records.specs.Turns.{turn_by, turn_of, writes}
use Rattle.sf_records.specs.Works.{Work, last_text, texts, turn_in}
use Rattle.sf_records.proofs.Copying.{fit_is}
use Rattle.sf_records.proofs.ReadingColumns.{Laws, reads_as, tagged_values}

-- ---- what the slots of a Done run were given

given_at : (given : Option Datum) → ((v : Datum) → given ≡ Some v → IsGivenValue (Some v)) → IsGivenValue given
given_at None is = tt
given_at (Some v) is = is v refl

are_given : (slots : List ℕ) (ds : List Directive) (values : List Assigned) → FillsSlots ds values
    → AllByRecursion IsGivenValue (map (λ slot. datum_at slot values) slots)
are_given [] ds values fills = tt
are_given (slot ∷ slots) ds values fills = (
  given_at (datum_at slot values) (λ v found. found_given slot values v fills.are_values found),
  are_given slots ds values fills,
)

pub values_given : (n : ℕ) (ds : List Directive) (values : List Assigned) → FillsSlots ds values
    → AllByRecursion IsGivenValue (given_to n values)
values_given n ds values fills = are_given (slots_from 1 n) ds values fills

slot_count : {A : Type 0} (f : ℕ → A) (place n : ℕ) → length (map f (slots_from place n)) ≡ n
slot_count f place zero = refl
slot_count f place (suc n) = ap suc (slot_count f (place + 1) n)

-- ---- records that are written

-- what is written is Done
done_by : (optional : Bool) (status : Status) (met : Option Ending) (used converted : ℕ)
    → writes (turn_by optional status met used converted) ≡ true → status ≡ Done
done_by optional Done met used converted e = refl
done_by optional NoMemory met used converted e = absurd (true≢false (sym e))
done_by optional InputFailure None used converted e = absurd (true≢false (sym e))
done_by optional InputFailure (Some End) used converted e = absurd (true≢false (sym e ∙ neither (nat_eq converted 0)))
  where
    neither : (b : Bool) → writes (cond b Ends Failed) ≡ false
    neither true = refl
    neither false = refl
done_by optional InputFailure (Some Fault) used converted e = absurd (true≢false (sym e))
done_by optional MatchingFailure None used converted e = absurd (true≢false (sym e))
done_by optional MatchingFailure (Some End) used converted e = absurd (true≢false (sym e))
done_by optional MatchingFailure (Some Fault) used converted e = absurd (true≢false (sym e))
done_by optional OutOfRange None used converted e = absurd (true≢false (sym e))
done_by optional OutOfRange (Some End) used converted e = absurd (true≢false (sym e))
done_by optional OutOfRange (Some Fault) used converted e = absurd (true≢false (sym e))
done_by optional TooLong None used converted e = absurd (true≢false (sym e))
done_by optional TooLong (Some End) used converted e = absurd (true≢false (sym e))
done_by optional TooLong (Some Fault) used converted e = absurd (true≢false (sym e))

bytes_behind : (x : List ℕ) (n : ℕ) → AreBytes x → AreBytes (drop n x)
bytes_behind x zero h = h
bytes_behind [] (suc n) h = h
bytes_behind (b ∷ x) (suc n) h = bytes_behind x n h.1

pub bytes_taken : (x : List ℕ) (n : ℕ) → AreBytes x → AreBytes (take n x)
bytes_taken x zero h = tt
bytes_taken [] (suc n) h = tt
bytes_taken (b ∷ x) (suc n) h = (h.0, bytes_taken x n h.1)

-- the count of records at the end
counted : (turn : Turn) (n : ℕ) (r : RunReport) → (turn ≡ Goes → ⊥) → (end_by turn n r).records ≡ (n + cond (writes turn) 1 0)
counted Goes n r stops = absurd (stops refl)
counted Ends n r stops = omega arith
counted (Cut true) n r stops = omega arith
counted (Cut false) n r stops = omega arith
counted Failed n r stops = omega arith
counted Stalled n r stops = omega arith
counted Unfit n r stops = omega arith
counted RanOut n r stops = omega arith

module _ (fill_slots : EachDoneRunFillsSlots) (have_rows : EachDoneRunHasItsRow) (headed_given : HeadedRecordsAreGiven) (laws : Laws)
    (tsv_back : TsvReadsBack) (h : Heading) (ds : List Directive) (accepted : IsAccepted ds) (m : ℕ) (ending : Ending) where
  abbrev w : Work
  w = writing_under h 1 ds

  abbrev slots : ℕ
  slots = length (destinations_of ds)

  turn_is : (r : RunReport) → turn_in w ds r ≡ turn_of (has_optional ds) r
  turn_is r = fit_is true (turn_of (has_optional ds) r) refl

  written_done : (r : RunReport) → writes (turn_in w ds r) ≡ true → r.status ≡ Done
  written_done r e = done_by (has_optional ds) r.status r.met r.used r.converted (ap writes (sym (turn_is r)) ∙ e)

  passed_done : (x y : List ℕ) (rs : List RunReport) → Passed w ds m x ending rs y → AreDone ds m x ending rs
  passed_done x y [] passed = tt
  passed_done x y (r ∷ rs) passed = (passed.0, written_done r (ap writes passed.1), passed_done (drop r.used x) y rs passed.2)

  passed_last : (x y : List ℕ) (rs : List RunReport) (last : RunReport) → Passed w ds m x ending rs y → RunWithin ds m y ending last
      → last.status ≡ Done → AreDone ds m x ending (rs ++ last ∷ [])
  passed_last x y [] last passed ran done = (subst (λ z. RunWithin ds m z ending last) (sym passed) ran, done, tt)
  passed_last x y (r ∷ rs) last passed ran done = (
    passed.0,
    written_done r (ap writes passed.1),
    passed_last (drop r.used x) y rs
        last passed.2 ran done,
  )

  abbrev columns : List RunReport → List (List (Option Datum))
  columns rs = map (columns_of h 1) (rows_given ds rs)

  record Rowed (rs : List RunReport) : Type 0 where
    pub fills : AllByRecursion (λ r. FillsSlots ds r.values) rs
    pub count : length (rows_given ds rs) ≡ length rs
    pub lengths : AllByRecursion (λ row. length row ≡ slots) (rows_given ds rs)
    pub values : AreGivenRows (rows_given ds rs)
    pub tagged : AreGivenRows (columns rs)
    pub text : texts w rs ≡ records_of h.form (names_over h) (columns rs)

  rowed : (x : List ℕ) → AreBytes x → (rs : List RunReport) → AreDone ds m x ending rs → Rowed rs
  rowed x bytes [] done = record { fills = tt; count = refl; lengths = tt; values = tt; tagged = tt; text = refl }
  rowed x bytes (r ∷ rs) done =
      let fills = fill_slots ds accepted m x ending r bytes (inl done.0) done.1 in
      let given = values_given slots ds r.values fills in
      let later = rowed (drop r.used x) (bytes_behind x r.used bytes) rs done.2 in
      record {
        fills = (fills, later.fills);
        count = ap suc later.count;
        lengths = (slot_count (λ slot. datum_at slot r.values) 1 slots, later.lengths);
        values = (given, later.values);
        tagged = (tagged_values h.tagged 1 (given_to slots r.values) (omega arith) given, later.tagged);
        text = ap₂ (λ (a b : List ℕ). a ++ b) (headed_given h 1 slots r) later.text;
      }

  -- where no value may be missing
  record Given (rs : List RunReport) : Type 0 where
    pub given : List (List Datum)
    pub are : rows_given ds rs ≡ map (map Some) given
    pub values : AreRows given
    pub kinds : HaveKinds (kinds_of ds) given

  given_of : has_optional ds ≡ false → (x : List ℕ) → AreBytes x → (rs : List RunReport) → AreDone ds m x ending rs → Given rs
  given_of none x bytes [] done = record { given = []; are = refl; values = tt; kinds = tt }
  given_of none x bytes (r ∷ rs) done =
      let has = have_rows ds accepted none m x ending r bytes (inl done.0) done.1 in
      let later = given_of none (drop r.used x) (bytes_behind x r.used bytes) rs done.2 in
      record {
        given = has.row ∷ later.given;
        are = ap₂ (λ (a : List (Option Datum)) (b : List (List (Option Datum))). a ∷ b) (sym has.is_row) later.are;
        values = (has.are_values, later.values);
        kinds = (has.kinds, later.kinds);
      }

  typed_of : (rs : List RunReport) → Given rs → AreWhole ds (rows_given ds rs)
  typed_of rs all = record {
    given = all.given;
    are = all.are;
    values = all.values;
    kinds = all.kinds;
    texts = λ form. ap (λ (rows : List (List (Option Datum))). flat_map (given_row_text form) rows) all.are
        ∙ sym (texts_given form all.given);
    table = tsv_back (kinds_of ds) all.given all.values all.kinds;
  }

  reads : (x : List ℕ) → AreBytes x → (rs : List RunReport) → AreDone ds m x ending rs → (text part : List ℕ)
      → text ≡ texts w rs ++ part → (answer : ToolEnd) → answer.records ≡ length rs
      → (is_write answer.fault ≡ false → part ≡ []) → ReadsAsRows h ds m x ending text answer
  reads x bytes rs done text part is answer count whole =
      let all = rowed x bytes rs done in
      record {
        reports = rs;
        done = done;
        fills = all.fills;
        rows = rows_given ds rs;
        are = refl;
        count = all.count ∙ sym count;
        lengths = all.lengths;
        values = all.values;
        columns = columns rs;
        columns_are = refl;
        part = part;
        text_is = is ∙ ap (λ (t : List ℕ). t ++ part) all.text;
        whole = whole;
        reads = reads_as laws h.form (names_over h) (columns rs) all.tagged;
        typed = λ none. typed_of rs (given_of none x bytes rs done);
      }

  -- where the loop stopped at a run
  stopped_so : (x : List ℕ) → AreBytes x → (output : List ℕ) (end : ToolEnd) (front : List RunReport) (left : List ℕ)
      → Passed w ds m x ending front left → (last : RunReport) → RunWithin ds m left ending last
      → (turn_in w ds last ≡ Goes → ⊥) → output ≡ texts w front ++ last_text w ds last → (n : ℕ) → n ≡ length front
      → end ≡ end_by (turn_in w ds last) n last → (b : Bool) → writes (turn_in w ds last) ≡ b
      → ReadsAsRows h ds m x ending output end
  stopped_so x bytes output end front left passed last ran stops is n count end_is true due =
      let text : last_text w ds last ≡ w.text last = ap (λ b. cond b (w.text last) []) due in
      let one : texts w (last ∷ []) ≡ w.text last = append-nil (w.text last) in
      let all : output ≡ texts w (front ++ last ∷ []) ++ [] =
      is ∙ ap (λ t. texts w front ++ t) (text ∙ sym one) ∙ sym (flat_map-append w.text front (last ∷ []))
      ∙ sym (append-nil (texts w (front ++ last ∷ []))) in
      let records : end.records ≡ n + 1 = ap (λ e. e.records) end_is ∙ counted (turn_in w ds last) n last stops
      ∙ ap (λ b. n + cond b 1 0) due in
      reads x bytes (front ++ last ∷ []) (passed_last x left front last passed ran (written_done last due)) output [] all end
      (omega (arith, records, count, length-append front (last ∷ []))) (λ e. refl)
  stopped_so x bytes output end front left passed last ran stops is n count end_is false due =
      let records : end.records ≡ n + 0 = ap (λ e. e.records) end_is ∙ counted (turn_in w ds last) n last stops
      ∙ ap (λ b. n + cond b 1 0) due in
      reads x bytes front (passed_done x left front passed) output [] (is ∙ ap (λ b. texts w front ++ cond b (w.text last) []) due)
      end (omega (arith, records, count)) (λ e. refl)

  -- where the loop came to its end
  pub ended_so : (x : List ℕ) → AreBytes x → (output : List ℕ) (used : ℕ) (end : ToolEnd) → EndsWith w ds m x ending output used end
      → ReadsAsRows h ds m x ending output end
  ended_so x bytes output used end h = elim h.stops [
    | inl full ↦
        reads x bytes h.written (passed_done x h.left h.written h.passed) output []
        (h.output_is ∙ ap (λ t. texts w h.written ++ t) full.nothing) end
        (omega (arith, ap (λ e. e.records) full.end_is)) (λ e. refl)
    | inr stops ↦
        stopped_so x bytes output end h.written h.left h.passed stops.last stops.ran stops.stops
        (h.output_is ∙ ap (λ t. texts w h.written ++ t) stops.tail_is) (0 + length h.written) (omega arith) stops.end_is
        (writes (turn_in w ds stops.last)) refl
  ]

  -- where it was ended before
  pub cut_so : (x : List ℕ) → AreBytes x → (text : List ℕ) (consumed : ℕ) (answer : ToolEnd)
      → IsCutShort w ds m x ending text consumed answer → ReadsAsRows h ds m x ending text answer
  cut_so x bytes text consumed answer h = elim h.why [
    | inl write ↦ reads x bytes h.before (passed_done x h.left h.before h.passed) text h.part h.written_is answer
        (ap (λ e. e.records) write.0) (λ e. absurd (true≢false (sym (ap (λ a. is_write a.fault) write.0) ∙ e)))
    | inr memory ↦ reads x bytes h.before (passed_done x h.left h.before h.passed) text h.part h.written_is answer
        (ap (λ e. e.records) memory.0) (λ e. memory.1)
  ]

pub records_back : {S : Type 0} (to_come : S → Option (List ℕ)) → EachDoneRunFillsSlots → EachDoneRunHasItsRow → HeadedRecordsAreGiven
    → Laws → TsvReadsBack → RecordsReadBack to_come
records_back to_come fill_slots have_rows headed_given laws tsv_back h ds accepted m t bytes now failures failures' before after answer
    loop =
    by loop.told
  where
    bytes_in : (failed : Bool) → AreBytes (input_by failed loop.consumed t)
    bytes_in true = bytes_taken t loop.consumed bytes
    bytes_in false = bytes

    by : (loop.written ≡ loop.output) × (loop.consumed ≡ loop.used) × (answer ≡ loop.end)
        ⊎ ((missing : List ℕ) × (loop.output ≡ loop.written ++ missing))
        × IsCutShort (writing_under h 1 ds) ds m (input_by loop.failed loop.consumed t) (ending_by loop.failed) loop.written
        loop.consumed answer
        → ReadsAsRows h ds m (input_by loop.failed loop.consumed t) (ending_by loop.failed) loop.written answer
    by (inl (text, used, end)) =
        subst (λ a. ReadsAsRows h ds m (input_by loop.failed loop.consumed t) (ending_by loop.failed) loop.written a) (sym end)
        (subst (λ y. ReadsAsRows h ds m (input_by loop.failed loop.consumed t) (ending_by loop.failed) y loop.end) (sym text)
        (ended_so fill_slots have_rows headed_given laws tsv_back h ds accepted m (ending_by loop.failed)
        (input_by loop.failed loop.consumed t) (bytes_in loop.failed) loop.output loop.used loop.end loop.is))
    by (inr (missing, cut)) =
        cut_so fill_slots have_rows headed_given laws tsv_back h ds accepted m (ending_by loop.failed)
        (input_by loop.failed loop.consumed t) (bytes_in loop.failed) loop.written loop.consumed answer cut

pub reads_back : {S : Type 0} (to_come : S → Option (List ℕ)) → RecordsReadBack to_come → WrittenReadsBack to_come
reads_back to_come back form ds accepted m t bytes now failures failures' before after answer loop =
    back (bare form) ds accepted m t bytes now failures failures' before after answer loop
