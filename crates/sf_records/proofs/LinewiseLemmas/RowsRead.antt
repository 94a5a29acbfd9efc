-- The records of the lines that are written are those of their rows.
use Rattle.std.proofs.Common.{◌≡◌, ℕ, zero, suc, ◌+◌, ◌<◌, ◌^◌, Bool, true, false, cond, nat_eq, ◌&&◌, List, [], ◌∷◌, ◌++◌, length, map}
use Rattle.std.proofs.Common.{Option, Some, None, Ok, Err, inl, inr, refl, ap, ap₂, subst, ◌∙◌, arith, length-append}
use Rattle.std.specs.Prelude.{drop, nat_lt, take}
use Rattle.std.specs.List.{AllByRecursion, count_by, filter}
use Rattle.sf_base.specs.Bytes.{AreBytes}
use Rattle.sf_base.specs.Data.{Datum}
use Rattle.sf_format.specs.declared.directive.Directive.{Directive}
use Rattle.sf_format.specs.Proper.{IsAccepted, destinations_of}
use Rattle.sf_forms.specs.Forms.{given_text}
use Rattle.sf_forms.specs.Heads.{headed, headed_text, names_over}
use Rattle.sf_forms.specs.ReadingBack.{HeadedRecordsAreGiven, IsGivenValue}
use Rattle.sf_forms.specs.makers.Forms.{Heading, writing_under}
use Rattle.sf_forms.specs.makers.Works.{outcome_of}
use Rattle.sf_read.specs.line.Cut.{begun_by, lines_by, lines_of}
use Rattle.sf_run.specs.outcome.Ending.{Ending}
use Rattle.sf_run.specs.outcome.Ending.TheVariants.{End, Fault}
use Rattle.sf_run.specs.outcome.Outcome.{Outcome}
use Rattle.sf_run.specs.outcome.Status.{Status}
use Rattle.sf_run.specs.outcome.Status.TheVariants.{Done, InputFailure, MatchingFailure, OutOfRange, TooLong, NoMemory}
use Rattle.sf_run.specs.Laws.{EachDoneRunFillsSlots}
use Rattle.sf_run.specs.Rows.{given_to}
use Rattle.sf_run.specs.Runs.{RunReport}
use Rattle.sf_records.specs.declared.by_lines.end.LineFault.{LineFault}
use Rattle.sf_records.specs.declared.by_lines.options.LinesOptions.{LinesOptions}
use Rattle.sf_records.specs.ReadingBack.{AreGivenRows, columns_of, records_of}
use Rattle.sf_records.specs.by_lines.Loops.{AreTurns, IfGoing, goes_on, is_written, lines_for, lines_met, texts}
use Rattle.sf_records.proofs.LinewiseLemmas.Choosing.{all_append}
use Rattle.sf_records.specs.by_lines.ReadingBack.{AreLineRows, GivesRow, LineRow, LinesReadBack}
use Rattle.sf_records.specs.by_lines.Turns.{Comes, LineWork, Picks, Turn, fault_from, fault_of, is_other, judged, number_of, turn_by}
use Rattle.sf_records.specs.by_lines.Turns.{work_of}
use Rattle.sf_records.proofs.LinewiseLemmas.Turning.{count_append}
use Rattle.sf_records.proofs.ReadingColumns.{Laws, reads_as, tagged_values}
use Rattle.sf_records.proofs.RowsWritten.{bytes_taken, values_given}

-- ---- the lines of bytes are bytes

begun_bytes : (b : ℕ) (lines : List (List ℕ)) (ending : Ending) → b < 256 → AllByRecursion AreBytes lines
    → AllByRecursion AreBytes (begun_by b lines ending)
begun_bytes b (line ∷ lines) ending byte are = ((byte, are.0), are.1)
begun_bytes b [] End byte are = ((byte, tt), tt)
begun_bytes b [] Fault byte are = tt

lines_bytes : (ending : Ending) (t : List ℕ) → AreBytes t → AllByRecursion AreBytes (lines_by ending t)
lines_bytes ending [] are = tt
lines_bytes ending (b ∷ t) are = by (nat_eq b 10) (lines_bytes ending t are.1)
  where
    by : (new : Bool) → AllByRecursion AreBytes (lines_by ending t)
        → AllByRecursion AreBytes (cond new ([] ∷ lines_by ending t) (begun_by b (lines_by ending t) ending))
    by true later = (tt, later)
    by false later = begun_bytes b (lines_by ending t) ending are.0 later

all_left : {A : Type 0} (P : A → Type 0) (n : ℕ) (xs : List A) → AllByRecursion P xs → AllByRecursion P (drop n xs)
all_left P zero xs all = all
all_left P (suc n) [] all = tt
all_left P (suc n) (x ∷ xs) all = all_left P n xs all.1

all_kept : {A : Type 0} (P : A → Type 0) (test : A → Bool) (xs : List A) → AllByRecursion P xs → AllByRecursion P (filter test xs)
all_kept P test [] all = tt
all_kept P test (x ∷ xs) all = by (test x) (all_kept P test xs all.1)
  where
    by : (b : Bool) → AllByRecursion P (filter test xs) → AllByRecursion P (cond b (x ∷ filter test xs) (filter test xs))
    by true rest = (all.0, rest)
    by false rest = rest

-- those of an input where a read failed, too
met_bytes : (limit : ℕ) (t : List ℕ) → AreBytes t → AllByRecursion AreBytes (lines_met limit t)
met_bytes limit t are = all_append AreBytes (lines_by Fault t)
    (filter (λ line. nat_lt limit (length line)) (drop (length (lines_by Fault t)) (lines_of t))) (lines_bytes Fault t are)
    (all_kept AreBytes (λ line. nat_lt limit (length line)) (drop (length (lines_by Fault t)) (lines_of t))
    (all_left AreBytes (length (lines_by Fault t)) (lines_of t) (lines_bytes End t are)))

-- ---- a line that is written

-- the line matched: the run is Done
matched_done : (whole : Bool) (size : ℕ) (status : Status) (o : Outcome) → fault_from whole size status o ≡ None → status ≡ Done
matched_done whole size Done o e = refl
matched_done whole size InputFailure o e = absurd cc
matched_done whole size MatchingFailure o e = absurd cc
matched_done whole size OutOfRange o e = absurd cc
matched_done whole size TooLong o e = absurd cc
matched_done whole size NoMemory o e = absurd cc

no_fault : (h : Heading) (matching : Bool) (number : ℕ) (ds : List Directive) (r : RunReport) (line text : List ℕ)
    (fault : Option LineFault) → Some (Ok text) ≡ judged matching (writing_under h number ds) r line fault
    → (fault ≡ None) × (text ≡ headed_text h number (length (destinations_of ds)) r)
no_fault h matching number ds r line text None e = (refl, cc)
no_fault h matching number ds r line text (Some fault) e = absurd (by (matching && is_other fault) e)
  where
    by : (b : Bool) → ◌≡◌ {A = Turn} (Some (Ok text)) (cond b None (Some (Err (line, fault)))) → ⊥
    by true e = cc
    by false e = cc

one_of : {A : Type 0} (P : A → Type 0) (before after : List A) (a : A) → AllByRecursion P (before ++ a ∷ after) → P a
one_of P [] after a all = all.0
one_of P (x ∷ before) after a all = one_of P before after a all.1

-- ---- the lines that had their turn

module _ (fill_slots : EachDoneRunFillsSlots) (headed_given : HeadedRecordsAreGiven) (h : Heading) (options : LinesOptions)
    (ignored formats : List (List Directive)) (telling : ℕ → List ℕ → LineFault → List ℕ) (accepted : AllByRecursion IsAccepted formats)
    (few : length formats < 2 ^ 64) where
  abbrev w : LineWork
  w = work_of options ignored formats (writing_under h) telling

  abbrev columns : List LineRow → List (List (Option Datum))
  columns rows = map (λ row. columns_of h row.0 row.1) rows

  record Rowed (lines : List (List ℕ)) (done : List Turn) : Type 0 where
    pub rows : List LineRow
    pub are : AreLineRows w lines done rows
    pub count : length rows ≡ count_by is_written done
    pub values : AreGivenRows (map (λ row. row.1) rows)
    pub tagged : AreGivenRows (columns rows)
    pub text : texts done ≡ records_of h.form (names_over h) (columns rows)

  -- the row of a line of which this text is written
  record Row (line text : List ℕ) : Type 0 where
    pub number : ℕ
    pub row : List (Option Datum)
    pub gives : GivesRow w line number row
    pub values : AllByRecursion IsGivenValue row
    pub tagged : AllByRecursion IsGivenValue (columns_of h number row)
    pub text_is : text ≡ headed (names_over h) h.form (map (given_text h.form) (columns_of h number row))

  judged_row : (line text : List ℕ) → AreBytes line → (ds : List Directive) (r : RunReport) (picks : Picks options formats line ds r)
      → Some (Ok text) ≡ turn_by w (number_of picks) ds r line → Row line text
  judged_row line text bytes ds r picks e =
      let number = number_of picks in
      let n = length (destinations_of ds) in
      let made = no_fault h options.matching number ds r line text (fault_of options line r) e in
      let done = matched_done options.whole (length line) r.status (outcome_of r) made.0 in
      let own = one_of IsAccepted picks.before picks.after ds (subst (AllByRecursion IsAccepted) picks.among accepted) in
      let fills = fill_slots ds own options.limit line End r bytes (inl picks.ran) done in
      let given = values_given n ds r.values fills in
      let below : number < 2 ^ 64 =
      omega (arith, few, ap (λ (l : List (List Directive)). length l) picks.among, length-append picks.before (ds ∷ picks.after)) in
      record {
        number = number;
        row = given_to n r.values;
        gives = record {
          ds = ds;
          report = r;
          picks = picks;
          matches = made.0;
          number_is = refl;
          fills = fills;
          row_is = refl;
        };
        values = given;
        tagged = tagged_values h.tagged number (given_to n r.values) below given;
        text_is = made.1 ∙ headed_given h number n r;
      }

  written_row : (number : ℕ) (line text : List ℕ) → AreBytes line → Comes w number line (Some (Ok text)) → Row line text
  written_row number line text bytes (inl skipped) = absurd cc
  written_row number line text bytes (inr (after, inl long)) = absurd cc
  written_row number line text bytes (inr (after, inr (short, inl ignored))) = absurd cc
  written_row number line text bytes (inr (after, inr (short, inr (read, (ds, r, picks, e))))) =
      judged_row line text bytes ds r picks e

  nothing_done : (lines : List (List ℕ)) → Rowed lines []
  nothing_done lines = record { rows = []; are = refl; count = refl; values = tt; tagged = tt; text = refl }

  rowed : (n : ℕ) (lines : List (List ℕ)) → AllByRecursion AreBytes lines → (done later : List Turn) → AreTurns w n lines (done ++ later)
      → Rowed lines done
  rowed n lines bytes [] later are = nothing_done lines
  rowed n [] bytes (turn ∷ done) later are = absurd cc
  rowed n (line ∷ lines) bytes (turn ∷ done) later are =
      with_turn turn are.0 (rest (goes_on w turn) are.1 (λ more. rowed (n + 1) lines bytes.1 done later more))
    where
      rest : (b : Bool) → IfGoing b (AreTurns w (n + 1) lines (done ++ later)) (done ++ later)
          → (AreTurns w (n + 1) lines (done ++ later) → Rowed lines done) → Rowed lines done
      rest true going go = go going
      rest false none go = stopped done none
        where
          stopped : (done : List Turn) → done ++ later ≡ [] → Rowed lines done
          stopped [] e = nothing_done lines
          stopped (turn ∷ done) e = absurd cc

      with_turn : (turn : Turn) → Comes w (n + 1) line turn → Rowed lines done → Rowed (line ∷ lines) (turn ∷ done)
      with_turn None comes all = record {
        rows = all.rows;
        are = all.are;
        count = all.count;
        values = all.values;
        tagged = all.tagged;
        text = all.text;
      }
      with_turn (Some (Err miss)) comes all = record {
        rows = all.rows;
        are = all.are;
        count = all.count;
        values = all.values;
        tagged = all.tagged;
        text = all.text;
      }
      with_turn (Some (Ok text)) comes all =
          let own = written_row (n + 1) line text bytes.0 comes in
          record {
            rows = (own.number, own.row) ∷ all.rows;
            are = (own.gives, all.are);
            count = omega (arith, all.count, count_append is_written (Some (Ok text) ∷ []) done);
            values = (own.values, all.values);
            tagged = (own.tagged, all.tagged);
            text = ap₂ (λ (a b : List ℕ). a ++ b) own.text_is all.text;
          }

pub lines_back : {S : Type 0} (to_come : S → Option (List ℕ)) → EachDoneRunFillsSlots → HeadedRecordsAreGiven → Laws
    → LinesReadBack to_come
lines_back to_come fill_slots headed_given laws h options ignored formats telling accepted few t bytes now failures failures' before after
    silent told told' answer loop =
    let all = rowed fill_slots headed_given h options ignored formats telling accepted few 0
    (lines_for options.limit loop.failed loop.consumed t) (bytes_in loop.failed) loop.done loop.later
    (subst (λ (turns : List Turn). AreTurns (work_of options ignored formats (writing_under h) telling) 0
    (lines_for options.limit loop.failed loop.consumed t) turns) loop.parts loop.are) in
    record {
      rows = all.rows;
      are = all.are;
      count = all.count;
      values = all.values;
      columns = map (λ row. columns_of h row.0 row.1) all.rows;
      columns_are = refl;
      text_is = all.text;
      reads = reads_as laws h.form (names_over h) (map (λ row. columns_of h row.0 row.1) all.rows) all.tagged;
    }
  where
    bytes_in : (failed : Bool) → AllByRecursion AreBytes (lines_for options.limit failed loop.consumed t)
    bytes_in true = met_bytes options.limit (take loop.consumed t) (bytes_taken t loop.consumed bytes)
    bytes_in false = lines_bytes End t bytes
