-- The loop over the lines of a source: how it goes on, and what holds where it stops.
use Rattle.std.proofs.Common.{◌≡◌, ℕ, ◌+◌, ◌<◌, ◌≤◌, Bool, true, false, cond, List, [], ◌∷◌, ◌++◌, length, take, drop, Option, Some, None}
use Rattle.std.proofs.Common.{Result, Ok, Err, is_err, ◌⊎◌, inl, inr, refl, sym, ap, subst, ◌∙◌, arith, append_assoc, append-nil}
use Rattle.std.proofs.Common.{length-append, count_by, true≢false, ◌&&◌}
use Rattle.std.specs.Prelude.{not, ◌-◌}
use Rattle.std.specs.Io.KnownBytes.{Appends, IsAtEnd}
use Rattle.sf_run.specs.outcome.Ending.TheVariants.{Fault}
use Rattle.sf_run.specs.Laws.{EachHasOneReport}
use Rattle.sf_read.specs.source.Ahead.{Ahead, input_of}
use Rattle.sf_read.specs.source.Counts.{counted_on}
use Rattle.sf_print.proofs.Appending.{Appends-none, Appends-then, Appends-same}
use Rattle.sf_records.specs.declared.by_lines.end.LinesEnd.{LinesEnd}
use Rattle.sf_records.specs.declared.by_lines.end.LinesFault.{LinesFault}
use Rattle.sf_records.specs.declared.by_lines.end.LinesFault.TheVariants.{Read, Write, Memory, TooMany}
use Rattle.sf_read.specs.line.Cut.{IsLine, lines_by, lines_of}
use Rattle.sf_read.specs.declared.line.line.LineRead.{LineRead}
use Rattle.sf_read.specs.declared.line.line.LineRead.TheVariants as reads
use Rattle.sf_read.specs.line.Reading.{Took, TookPart, Reads, ReadsFront, endless, is_failed}
use Rattle.sf_records.specs.by_lines.Turns.{AreScanned, LineWork, Turn, Comes}
use Rattle.sf_records.specs.by_lines.Loops.{is_write, AreLines, AreLinesAndPart, AreTaken, AreTakenBy, AreTurns, IsBegun, IsCutShort}
use Rattle.sf_records.specs.by_lines.Loops.{TellsLines, ends_long, goes_on, is_long, lines_met, tellings}
use Rattle.sf_records.specs.by_lines.Loops.{telling_of, texts, text_of, is_written, fault_after, ended, status_by, most_lines}
use Rattle.sf_records.specs.by_lines.Loops as turns
use Rattle.sf_records.specs.declared.by_lines.judge.Judged.{Judged}
use Rattle.sf_records.specs.declared.by_lines.judge.Judged.TheVariants.{Skipped, Written, Failed, Cut, Stopped, Unread}
use Rattle.sf_records.specs.by_lines.Coming.{IsUnread, StopsAt, StopsWithin, Turns, counted, is_read_fault, next_by}
use Rattle.sf_forms.specs.Written.{TakesPart}
use Rattle.sf_records.specs.by_lines.Judging.{is_write_fault}
use Rattle.sf_records.specs.by_lines.Telling.{Tells}
use Rattle.sf_records.proofs.LinewiseLemmas.Telling.{all_said, tells_nothing, tells_then}
use Rattle.sf_read.proofs.LineLemmas.Lined.{Lined, begins, took, gone_all, consumed, failed_in, at_end}
use Rattle.sf_records.proofs.LinewiseLemmas.Reading.{are_lines, begun, lines_and_part, met_long, met_short}
use Rattle.sf_records.proofs.LinewiseLemmas.Turning.{Passed, all_went_on, passed_length, passed_then, passed_more, tellings_append}
use Rattle.sf_records.proofs.LinewiseLemmas.Turning.{texts_more, count_more}
use Rattle.sf_records.proofs.LinewiseLemmas.Turning.{turns_behind, if_stopped, comes_whole, long_at_last, long_turn, none_long, short_turn}

-- what the loop wrote, told and counted after these turns. The sink held the bytes `was`, and now `is`.
pub record Did (w : LineWork) (done : List Turn) (was is : Option (List ℕ)) (dumb silent : Bool) (told told' : Option (List ℕ))
    (written failed : ℕ) : Type 0 where
  pub appends : Appends was is (texts done)
  pub tells : Tells dumb silent told told' (tellings w 0 done)
  pub written_are : written ≡ count_by is_written done
  pub failed_are : failed ≡ count_by turns.is_failed done

-- after the first n lines of the input t
pub record Going {S : Type 0} (w : LineWork) (to_come : S → Option (List ℕ)) (t : List ℕ) (now : Ahead S) (was is : Option (List ℕ))
    (dumb silent : Bool) (told told' : Option (List ℕ)) (written failed n : ℕ) : Type 0 where
  pub front : List (List ℕ)
  pub done : List Turn
  pub lined : Lined to_come t now front
  pub passed : Passed w 0 front done
  pub count : length done ≡ n
  pub did : Did w done was is dumb silent told told' written failed

pub starts : {S : Type 0} (w : LineWork) (to_come : S → Option (List ℕ)) (t : List ℕ) (now : Ahead S) (was : Option (List ℕ)) (dumb : Bool)
    (told : Option (List ℕ)) → input_of to_come now ≡ Some t → Going w to_come t now was was dumb dumb told told 0 0 0
starts w to_come t now was dumb told e = record {
  front = [];
  done = [];
  lined = begins to_come t now e;
  passed = refl;
  count = refl;
  did = record { appends = Appends-none was; tells = tells_nothing dumb told; written_are = refl; failed_are = refl };
}

-- the end after these
end_is : (answer : LinesEnd) (written failed : ℕ) (fault : Option LinesFault) (done : List Turn)
    → answer ≡ record { status = status_by failed fault; written = written; failed = failed; fault = fault }
    → written ≡ count_by is_written done → failed ≡ count_by turns.is_failed done → answer ≡ ended done fault
end_is answer written failed fault done is p q = is ∙ rw (p, q) refl

-- the fault in an answer
abbrev fault_in : Option LinesFault → Result (Unit {0}) (Option LinesFault) → Option LinesFault
fault_in other (Err fault) = fault
fault_in other (Ok kept) = other

-- after a line that is no match
kept_going : (keep_going : Bool) (number : ℕ) (kept : Unit {0}) → next_by keep_going number Failed ≡ Ok kept → keep_going ≡ true
kept_going true number kept e = refl
kept_going false number kept e = absurd (true≢false (ap is_err e))

stopped_by : (keep_going : Bool) (number : ℕ) (fault : Option LinesFault)
    → next_by keep_going number Failed ≡ Err fault → (keep_going ≡ false) × (fault ≡ None)
stopped_by true number fault e = absurd (true≢false (sym (ap is_err e)))
stopped_by false number fault e = (refl, ap (fault_in None) (sym e))

both : (b c : Bool) → b ≡ true → c ≡ false → (b && not c) ≡ true
both b c e f = rw (e, f) refl

le_or_lt : (n k : ℕ) → (n ≤ k) ⊎ (k < n)
le_or_lt n k = grind arith

-- the bytes of lines that had these turns
taken_by : (w : LineWork) (t : List ℕ) (consumed : ℕ) (turns : List Turn) (b : Bool) → ends_long w turns ≡ b
    → AreTakenBy b w.options.limit t consumed (length turns) → AreTaken w t consumed turns
taken_by w t consumed turns b e h = subst (λ (l : Bool). AreTakenBy l w.options.limit t consumed (length turns)) (sym e) h

-- these lines had these turns, and there is no other line
all_of : (w : LineWork) (lines front : List (List ℕ)) (done : List Turn) → Passed w 0 front done → lines ≡ front → AreTurns w 0 lines done
all_of w lines front done passed e =
    let h : AreTurns w 0 (front ++ []) (done ++ []) = passed_then w 0 front [] done [] passed refl in
    subst (λ (ls : List (List ℕ)). AreTurns w 0 ls done) (append-nil front ∙ sym e)
    (subst (λ (ts : List Turn). AreTurns w 0 (front ++ []) ts) (append-nil done) h)

module _ {S : Type 0} {w : LineWork} {to_come : S → Option (List ℕ)} {t : List ℕ} {now : Ahead S} {was is : Option (List ℕ)}
    {dumb silent : Bool} {told told' : Option (List ℕ)} {written failed n : ℕ}
    (one : EachHasOneReport) (scanned : AreScanned w)
    (g : Going w to_come t now was is dumb silent told told' written failed n) where
  lines_count : length g.front ≡ n
  lines_count = sym (passed_length w 0 g.front g.done g.passed) ∙ g.count

  -- the bytes of the lines that are done
  lines_done : AreLines t (length g.lined.gone) (length g.done)
  lines_done = subst (AreLines t (length g.lined.gone)) (sym (passed_length w 0 g.front g.done g.passed)) (are_lines g.lined)

  -- the loop is ended before: what it did is the front of what comes of all lines
  cut_short : {new : Ahead S} (consumed : ℕ) → input_of to_come new ≡ Some (drop consumed t) → (more : List (List ℕ))
      → lines_of t ≡ g.front ++ more → (later : List Turn) → AreTurns w (length g.front) more later
      → (part : List ℕ) (after : Option (List ℕ)) → Appends is after part → (failures mid : ℕ) → mid ≡ failures → (answer : LinesEnd)
      → IsCutShort w g.done part later t consumed answer
      → TellsLines w to_come t new failures mid was after dumb silent told told' answer
  cut_short consumed rest more all later are part after wrote failures mid same answer why = (
    record {
      failed = false;
      failures_are = same;
      nothing_held = λ e. absurd (true≢false (sym e));
      consumed = consumed;
      rest = rest;
      turns = g.done ++ later;
      are = subst (λ (lines : List (List ℕ)). AreTurns w 0 lines (g.done ++ later)) (sym all)
          (passed_then w 0 g.front more g.done later g.passed (subst (λ (k : ℕ). AreTurns w k more later) {x = length g.front}
          {y = 0 + length g.front} (omega arith) are));
      done = g.done;
      later = later;
      parts = refl;
      part = part;
      appends = Appends-then _ _ _ _ _ g.did.appends wrote;
      tells = all_said dumb silent told told' (tellings w 0 g.done) g.did.tells;
      ends = inr (refl, all_went_on w 0 g.front g.done g.passed, why);
    },
    g.did.tells,
  )

  -- memory for the next line was refused
  pub refused_in : {new : Ahead S} (part : List ℕ) → TookPart to_come now new part → (failures mid : ℕ) → mid ≡ failures
      → (answer : LinesEnd) → answer ≡ record
      { status = status_by failed (Some Memory); written = written; failed = failed; fault = Some Memory }
      → w.options.skip < n + 1 → TellsLines w to_come t new failures mid was is dumb silent told told' answer
  refused_in {new} part lost failures mid same answer answer_is counts =
      let (k, rest, behind) = lines_and_part g.lined new part lost in
      let more = turns_behind one w scanned (length g.front) (lines_of g.lined.left) in
      cut_short k rest (lines_of g.lined.left) g.lined.whole more.0 more.1 [] is (Appends-none is) failures mid same answer
      (inr (inl (
        end_is answer written failed (Some Memory) g.done answer_is g.did.written_are g.did.failed_are,
        refl,
        inr (
          omega (arith, counts, g.count),
          inr (part, subst (λ (lines : ℕ). AreLinesAndPart t k lines part) (sym (passed_length w 0 g.front g.done g.passed)) behind),
        ),
      )))

  -- the most lines were read
  pub too_many : n ≡ most_lines → (failures mid : ℕ) → mid ≡ failures → (answer : LinesEnd)
      → answer ≡ record { status = status_by failed (Some TooMany); written = written; failed = failed; fault = Some TooMany }
      → TellsLines w to_come t now failures mid was is dumb silent told told' answer
  too_many most failures mid same answer answer_is =
      let more = turns_behind one w scanned (length g.front) (lines_of g.lined.left) in
      cut_short (length g.lined.gone) (g.lined.input ∙ ap Some (sym (gone_all g.lined))) (lines_of g.lined.left) g.lined.whole more.0
      more.1 [] is (Appends-none is) failures mid same answer
      (inr (inr (
        end_is answer written failed (Some TooMany) g.done answer_is g.did.written_are g.did.failed_are,
        refl,
        inl
            (g.count ∙ most, lines_done),
      )))

  -- there was no other line
  all_passed : (lines : List (List ℕ)) → lines ≡ g.front → AreTurns w 0 lines g.done
  all_passed lines e = all_of w lines g.front g.done g.passed e

  -- the input has no further line
  pub at_last : {new : Ahead S} → TookPart to_come now new [] → IsAtEnd (input_of to_come new) → (failures mid : ℕ) → mid ≡ failures
      → (answer : LinesEnd) → answer ≡ record { status = status_by failed None; written = written; failed = failed; fault = None }
      → TellsLines w to_come t new failures mid was is dumb silent told told' answer
  at_last {new} nothing known failures mid same answer answer_is =
      let (rest, all) = at_end g.lined new nothing.bytes known in (
        record {
          failed = false;
          failures_are = same;
          nothing_held = λ e. absurd (true≢false (sym e));
          consumed = length g.lined.gone;
          rest = rest;
          turns = g.done;
          are = all_passed (lines_of t) all;
          done = g.done;
          later = [];
          parts = sym (append-nil g.done);
          part = [];
          appends = Appends-same _ _ _ _ (sym (append-nil (texts g.done))) g.did.appends;
          tells = all_said dumb silent told told' (tellings w 0 g.done) g.did.tells;
          ends = inl (
            refl,
            refl,
            end_is answer written failed None g.done answer_is g.did.written_are g.did.failed_are,
            λ _. taken_by w t (length g.lined.gone) g.done false (none_long w g.done (all_went_on w 0 g.front g.done g.passed)) lines_done,
          );
        },
        g.did.tells,
      )

  -- the loop did so of one more
  module _ (turn : Turn) (after : Option (List ℕ)) (silent' : Bool) (told'' : Option (List ℕ))
      (written' failed' : ℕ) (wrote : Appends is after (text_of turn))
      (tells : Tells silent silent' told' told'' (telling_of w (n + 1) turn))
      (more_written : written' ≡ written + cond (is_written turn) 1 0)
      (more_failed : failed' ≡ failed + cond (turns.is_failed turn) 1 0) where
    pub did_more : Did w (g.done ++ turn ∷ []) was after dumb silent' told told'' written' failed'
    did_more = record {
      appends = Appends-same _ _ _ _ (sym (texts_more g.done turn)) (Appends-then _ _ _ _ _ g.did.appends wrote);
      tells = subst (Tells dumb silent' told told'') (sym telling) (tells_then dumb silent silent' told told' told''
          (tellings w 0 g.done) (telling_of w (n + 1) turn) g.did.tells tells);
      written_are = count_more is_written g.done turn written' written more_written g.did.written_are;
      failed_are = count_more turns.is_failed g.done turn failed' failed more_failed g.did.failed_are;
    }
      where
        telling : tellings w 0 (g.done ++ turn ∷ []) ≡ tellings w 0 g.done ++ telling_of w (n + 1) turn
        telling =
            tellings_append w 0 g.done (turn ∷ []) ∙ ap (λ (y : List ℕ). tellings w 0 g.done ++ y)
            (append-nil (telling_of w (0 + length g.done + 1) turn))
            ∙ ap (λ (k : ℕ). tellings w 0 g.done ++ telling_of w k turn) {x = 0 + length g.done + 1} {y = n + 1} (omega (arith, g.count))

  -- the number of the line after those that are ended
  number_is : (part : List ℕ) → IsLine part → now.at_end ≡ false → (taken : List ℕ) → taken ≡ g.lined.gone ++ part → (done : List Turn)
      → ended done (Some (Read (n + 1))) ≡ ended done (Some (Read (length (lines_by Fault taken) + 1)))
  number_is part is_line open' taken gone done = ap (λ (k : ℕ). ended done (Some (Read (k + 1))))
      (sym lines_count ∙ ap (λ (ls : List (List ℕ)). length ls) (sym (ap (lines_by Fault) gone ∙ failed_in g.lined part is_line open')))

  -- the source failed in the next line, before that was above the limit
  pub read_failed : {new : Ahead S} (part : List ℕ) → TookPart to_come now new part → length part ≤ w.options.limit → now.at_end ≡ false
      → new.held ≡ [] → (failures mid before : ℕ) → before ≡ failures → mid ≡ counted_on before → (answer : LinesEnd)
      → answer ≡ record {
        status = status_by failed (Some (Read (n + 1)));
        written = written;
        failed = failed;
        fault =
            Some (Read (n + 1));
      } → TellsLines w to_come t new failures mid was is dumb silent told told' answer
  read_failed {new} part lost short open' held failures mid before same counts answer answer_is =
      let (k, _, rest, gone, _) = consumed g.lined new part lost.bytes in (
        record {
          failed = true;
          failures_are = counts ∙ ap counted_on same;
          nothing_held = λ e. held;
          consumed = k;
          rest = rest;
          turns = g.done;
          are = all_passed (lines_met w.options.limit (take k t)) (ap (lines_met w.options.limit) gone
              ∙ met_short g.lined part lost.is_line open' w.options.limit short);
          done = g.done;
          later = [];
          parts = sym (append-nil g.done);
          part = [];
          appends = Appends-same _ _ _ _ (sym (append-nil (texts g.done))) g.did.appends;
          tells = all_said dumb silent told told' (tellings w 0 g.done) g.did.tells;
          ends = inl (
            refl,
            refl,
            (
              all_went_on w 0 g.front g.done g.passed,
              end_is answer written failed (Some (Read (n + 1))) g.done answer_is g.did.written_are
                  g.did.failed_are ∙ number_is part lost.is_line open' (take k t) gone g.done,
            ),
            λ e. absurd (true≢false e),
          );
        },
        g.did.tells,
      )

  -- a part of a line was taken, and that had its turn
  module _ {new : Ahead S} (part : List ℕ) (lost' : TookPart to_come now new part) (turn : Turn) (after : Option (List ℕ))
      (silent' : Bool) (told'' : Option (List ℕ))
      (written' failed' : ℕ) (wrote : Appends is after (text_of turn))
      (tells : Tells silent silent' told' told'' (telling_of w (n + 1) turn))
      (more_written : written' ≡ written + cond (is_written turn) 1 0)
      (more_failed : failed' ≡ failed + cond (turns.is_failed turn) 1 0)
      (comes : (more : List ℕ) → Comes w (n + 1) (part ++ more) turn) where
    did_part : Did w (g.done ++ turn ∷ []) was after dumb silent' told told'' written' failed'
    did_part = did_more turn after silent' told'' written' failed' wrote tells more_written more_failed

    came_part : Comes w (0 + length g.front + 1) part turn
    came_part = subst (λ (k : ℕ). Comes w k part turn) {x = n + 1} {y = 0 + length g.front + 1} (omega (arith, lines_count))
        (subst (λ (y : List ℕ). Comes w (n + 1) y turn) (append-nil part) (comes []))

    -- these are the lines before, and the part
    within : (k : ℕ) → AreLinesAndPart t k (length g.front) part → AreLinesAndPart t k (length (g.done ++ turn ∷ []) - 1) part
    within k behind = subst (λ (lines : ℕ). AreLinesAndPart t k lines part) {x = length g.front} {y = length (g.done ++ turn ∷ []) - 1}
        (omega (arith, length-append g.done (turn ∷ []), passed_length w 0 g.front g.done g.passed)) behind

    -- the source failed in its rest
    pub fails_within : w.options.limit < length part → goes_on w turn ≡ true → now.at_end ≡ false → new.held ≡ []
        → (failures mid before : ℕ) → before ≡ failures
        → mid ≡ counted_on before → (answer : LinesEnd) → answer ≡ record {
          status = status_by failed' (Some (Read (n + 1)));
          written = written';
          failed = failed';
          fault = Some (Read (n + 1));
        } → TellsLines w to_come t new failures mid was after dumb silent' told told'' answer
    fails_within long goes open' held failures mid before same counts answer answer_is =
        let (k, _, rest, gone, _) = consumed g.lined new part lost'.bytes in
        let passed : Passed w 0 (g.front ++ part ∷ []) (g.done ++ turn ∷ []) =
        passed_more w 0 g.front g.done part turn g.passed came_part goes in (
          record {
            failed = true;
            failures_are = counts ∙ ap counted_on same;
            nothing_held = λ e. held;
            consumed = k;
            rest = rest;
            turns = g.done ++ turn ∷ [];
            are = all_of w (lines_met w.options.limit (take k t)) (g.front ++ part ∷ []) (g.done ++ turn ∷ []) passed
                (ap (lines_met w.options.limit) gone ∙ met_long g.lined part lost'.is_line open' w.options.limit long);
            done = g.done ++ turn ∷ [];
            later = [];
            parts = sym (append-nil (g.done ++ turn ∷ []));
            part = [];
            appends = Appends-same _ _ _ _ (sym (append-nil (texts (g.done ++ turn ∷ [])))) did_part.appends;
            tells = all_said dumb silent' told told'' (tellings w 0 (g.done ++ turn ∷ [])) did_part.tells;
            ends = inl (
              refl,
              refl,
              (
                all_went_on w 0 (g.front ++ part ∷ []) (g.done ++ turn ∷ []) passed,
                end_is answer written' failed' (Some (Read (n + 1))) (g.done ++ turn ∷ []) answer_is did_part.written_are
                    did_part.failed_are ∙ number_is part lost'.is_line open' (take k t) gone (g.done ++ turn ∷ []),
              ),
              λ e. absurd (true≢false e),
            );
          },
          did_part.tells,
        )

    -- the loop stops there
    pub stops_within : w.options.limit < length part → goes_on w turn ≡ false → is_long turn ≡ true → (failures mid : ℕ)
        → mid ≡ failures → (answer : LinesEnd)
        → answer ≡ record { status = status_by failed' None; written = written'; failed = failed'; fault = None }
        → TellsLines w to_come t new failures mid was after dumb silent' told told'' answer
    stops_within long goes is_long' failures mid same answer answer_is =
        let (k, rest, behind) = lines_and_part g.lined new part lost' in
        let (more, others, all) = begun g.lined new part lost' (omega (arith, long)) in (
          record {
            failed = false;
            failures_are = same;
            nothing_held = λ e. absurd (true≢false (sym e));
            consumed = k;
            rest = rest;
            turns = g.done ++ turn ∷ [];
            are = subst (λ (ls : List (List ℕ)). AreTurns w 0 ls (g.done ++ turn ∷ [])) (sym all)
                (passed_then w 0 g.front ((part ++ more) ∷ others) g.done (turn ∷ []) g.passed (
                  subst (λ (j : ℕ). Comes w j (part ++ more) turn) {x = n + 1} {y = 0 + length g.front + 1} (omega (arith, lines_count))
                      (comes more),
                  if_stopped (goes_on w turn) (AreTurns w (0 + length g.front + 1) others []) [] goes refl,
                ));
            done = g.done ++ turn ∷ [];
            later = [];
            parts = sym (append-nil (g.done ++ turn ∷ []));
            part = [];
            appends = Appends-same _ _ _ _ (sym (append-nil (texts (g.done ++ turn ∷ [])))) did_part.appends;
            tells = all_said dumb silent' told told'' (tellings w 0 (g.done ++ turn ∷ [])) did_part.tells;
            ends = inl (
              refl,
              refl,
              end_is answer written' failed' None (g.done ++ turn ∷ []) answer_is did_part.written_are did_part.failed_are,
              λ _. taken_by w t k (g.done ++ turn ∷ []) true
                  (long_at_last w g.done turn ∙ both (is_long turn) (goes_on w turn) is_long' goes)
                  (part, within k behind, long),
            );
          },
          did_part.tells,
        )

    -- it is endless
    pub endless_within : goes_on w turn ≡ true → endless ≤ length part → (failures mid : ℕ) → mid ≡ failures → (answer : LinesEnd)
        → answer ≡ record { status = status_by failed' (Some TooMany); written = written'; failed = failed'; fault = Some TooMany }
        → TellsLines w to_come t new failures mid was after dumb silent' told told'' answer
    endless_within goes many failures mid same answer answer_is =
        let (k, rest, behind) = lines_and_part g.lined new part lost' in
        let (more, others, all) = begun g.lined new part lost' (omega (arith, many)) in
        let later = turns_behind one w scanned (length g.front + 1) others in
        let passed : Passed w 0 (g.front ++ (part ++ more) ∷ []) (g.done ++ turn ∷ []) =
        passed_more w 0 g.front g.done (part ++ more) turn g.passed
        (subst (λ (j : ℕ). Comes w j (part ++ more) turn) {x = n + 1} {y = 0 + length g.front + 1} (omega (arith, lines_count))
        (comes more))
        goes in (
          record {
            failed = false;
            failures_are = same;
            nothing_held = λ e. absurd (true≢false (sym e));
            consumed = k;
            rest = rest;
            turns = (g.done ++ turn ∷ []) ++ later.0;
            are = subst (λ (ls : List (List ℕ)). AreTurns w 0 ls ((g.done ++ turn ∷ []) ++ later.0))
                (append_assoc g.front ((part ++ more) ∷ []) others ∙ sym all)
                (passed_then w 0 (g.front ++ (part ++ more) ∷ []) others (g.done ++ turn ∷ []) later.0 passed
                (subst (λ (j : ℕ). AreTurns w j others later.0) {x = length g.front + 1}
                {y = 0 + length (g.front ++ (part ++ more) ∷ [])} (omega (arith, length-append g.front ((part ++ more) ∷ []))) later.1));
            done = g.done ++ turn ∷ [];
            later = later.0;
            parts = refl;
            part = [];
            appends = Appends-same _ _ _ _ (sym (append-nil (texts (g.done ++ turn ∷ [])))) did_part.appends;
            tells = all_said dumb silent' told told'' (tellings w 0 (g.done ++ turn ∷ [])) did_part.tells;
            ends = inr (
              refl,
              all_went_on w 0 (g.front ++ (part ++ more) ∷ []) (g.done ++ turn ∷ []) passed,
              inr (inr (
                end_is answer written' failed' (Some TooMany) (g.done ++ turn ∷ []) answer_is did_part.written_are did_part.failed_are,
                refl,
                inr (omega (arith, length-append g.done (turn ∷ [])), (part, within k behind, many)),
              )),
            );
          },
          did_part.tells,
        )

  -- the same of a line that is to be passed over
  pub skip_failed : {new : Ahead S} (part : List ℕ) → TookPart to_come now new part → n + 1 ≤ w.options.skip → now.at_end ≡ false
      → new.held ≡ [] → (failures mid before : ℕ) → before ≡ failures → mid ≡ counted_on before → (answer : LinesEnd)
      → answer ≡ record {
        status = status_by failed (Some (Read (n + 1)));
        written = written;
        failed = failed;
        fault = Some (Read (n + 1));
      } → TellsLines w to_come t new failures mid was is dumb silent told told' answer
  skip_failed {new} part lost few open' held failures mid before same counts answer answer_is =
      elim (le_or_lt (length part) w.options.limit) [
        | inl short ↦ read_failed part lost short open' held failures mid before same counts answer answer_is
        | inr long ↦ fails_within part lost None is silent told' written failed (Appends-none is) (tells_nothing silent told')
            (omega arith) (omega arith) (λ more. inl (few, refl)) long refl open' held failures mid before same counts answer answer_is
      ]

  pub skip_endless : {new : Ahead S} (part : List ℕ) → TookPart to_come now new part → n + 1 ≤ w.options.skip → endless ≤ length part
      → (failures mid : ℕ) → mid ≡ failures → (answer : LinesEnd)
      → answer ≡ record { status = status_by failed (Some TooMany); written = written; failed = failed; fault = Some TooMany }
      → TellsLines w to_come t new failures mid was is dumb silent told told' answer
  skip_endless {new} part lost few many failures mid same answer answer_is =
      endless_within part lost None is silent told' written failed (Appends-none is) (tells_nothing silent told')
      (omega arith) (omega arith) (λ more. inl (few, refl)) refl many failures mid same answer answer_is

  -- no line was read
  pub no_line : {new : Ahead S} (r : LineRead) → IsUnread to_come now new w.options.skip w.options.limit (n + 1) r
      → (failures before mid : ℕ) → before ≡ failures → mid ≡ cond (is_failed r) (counted_on before) before
      → (answer : LinesEnd) → answer ≡ record {
        status = status_by failed (fault_after (n + 1) r);
        written = written;
        failed =
            failed;
        fault = fault_after (n + 1) r;
      } → TellsLines w to_come t new failures mid was is dumb silent told told' answer
  no_line {new} r u failures before mid same counts answer answer_is =
      by r u.told u.no_line u.no_long u.unskipped u.skipped counts answer_is
    where
      by : (r : LineRead) → (n + 1 ≤ w.options.skip) × Reads to_come now new 0 u.line r
          ⊎ (w.options.skip < n + 1) × ReadsFront to_come now new w.options.limit u.line r
          → (r ≡ reads.Line → ⊥) → (r ≡ reads.TooLong → ⊥) → (r ≡ reads.NoMemory → w.options.skip < n + 1)
          → (r ≡ reads.Endless → n + 1 ≤ w.options.skip) → mid ≡ cond (is_failed r) (counted_on before) before
          → answer ≡ record {
            status = status_by failed (fault_after (n + 1) r);
            written = written;
            failed = failed;
            fault = fault_after (n + 1) r;
          } → TellsLines w to_come t new failures mid was is dumb silent told told' answer
      by reads.Line h not_line not_long unskipped skipped counts answer_is = absurd (not_line refl)
      by reads.TooLong h not_line not_long unskipped skipped counts answer_is = absurd (not_long refl)
      by reads.End (inl (few, h)) not_line not_long unskipped skipped counts answer_is =
          at_last h.0 h.2 failures mid (counts ∙ same) answer answer_is
      by reads.End (inr (most, h)) not_line not_long unskipped skipped counts answer_is =
          at_last h.0 h.2 failures mid (counts ∙ same) answer answer_is
      by reads.Fault (inl (few, (part, lost, open', ended, held))) not_line not_long unskipped skipped counts answer_is =
          skip_failed part lost few open' held failures mid before same counts answer answer_is
      by reads.Fault (inr (most, (part, lost, open', ended, held, short))) not_line not_long unskipped skipped counts answer_is =
          read_failed part lost short open' held failures mid before same counts answer answer_is
      by reads.Endless (inl (few, (part, lost, many))) not_line not_long unskipped skipped counts answer_is =
          skip_endless part lost few many failures mid (counts ∙ same) answer answer_is
      by reads.Endless (inr (most, h)) not_line not_long unskipped skipped counts answer_is = absurd (omega (arith, most, skipped refl))
      by reads.NoMemory (inl (few, h)) not_line not_long unskipped skipped counts answer_is =
          absurd (omega (arith, few, unskipped refl))
      by reads.NoMemory (inr (most, (part, lost))) not_line not_long unskipped skipped counts answer_is =
          refused_in part lost failures mid (counts ∙ same) answer answer_is most

  module _ {new : Ahead S} (line : List ℕ) (read : Took to_come now new line) where
    lined : Lined to_come t new (g.front ++ line ∷ [])
    lined = took g.lined new line read

    all_lines : lines_of t ≡ g.front ++ line ∷ lines_of lined.left
    all_lines = lined.whole ∙ append_assoc g.front (line ∷ []) (lines_of lined.left)

    rest_is : input_of to_come new ≡ Some (drop (length lined.gone) t)
    rest_is = lined.input ∙ ap Some (sym (gone_all lined))

    -- the bytes of the lines that are done, and of this one
    lines_taken : AreLines t (length lined.gone) (length g.done + 1)
    lines_taken = subst (AreLines t (length lined.gone)) {x = length (g.front ++ line ∷ [])} {y = length g.done + 1}
        (omega (arith, length-append g.front (line ∷ []), lines_count, g.count)) (are_lines lined)

    module _ (turn : Turn) (comes : Comes w (n + 1) line turn) (after : Option (List ℕ)) (silent' : Bool) (told'' : Option (List ℕ))
        (written' failed' : ℕ) (wrote : Appends is after (text_of turn))
        (tells : Tells silent silent' told' told'' (telling_of w (n + 1) turn))
        (more_written : written' ≡ written + cond (is_written turn) 1 0)
        (more_failed : failed' ≡ failed + cond (turns.is_failed turn) 1 0) where
      did_now : Did w (g.done ++ turn ∷ []) was after dumb silent' told told'' written' failed'
      did_now = did_more turn after silent' told'' written' failed' wrote tells more_written more_failed

      -- the loop goes on
      pub next : goes_on w turn ≡ true → Going w to_come t new was after dumb silent' told told'' written' failed' (n + 1)
      next goes = record {
        front = g.front ++ line ∷ [];
        done = g.done ++ turn ∷ [];
        lined = lined;
        passed = passed_more w 0 g.front g.done line turn g.passed (subst (λ (k : ℕ). Comes w k line turn) {x = n + 1}
            {y = 0 + length g.front + 1} (omega (arith, lines_count)) comes) goes;
        count = omega (arith, length-append g.done (turn ∷ []), g.count);
        did = did_now;
      }

      -- the loop stops there
      pub stops : goes_on w turn ≡ false → is_long turn ≡ false → (failures mid : ℕ) → mid ≡ failures → (answer : LinesEnd)
          → answer ≡ record { status = status_by failed' None; written = written'; failed = failed'; fault = None }
          → TellsLines w to_come t new failures mid was after dumb silent' told told'' answer
      stops goes short failures mid same answer answer_is = (
        record {
          failed = false;
          failures_are = same;
          nothing_held = λ e. absurd (true≢false (sym e));
          consumed = length lined.gone;
          rest = rest_is;
          turns = g.done ++ turn ∷ [];
          are = subst (λ (ls : List (List ℕ)). AreTurns w 0 ls (g.done ++ turn ∷ [])) (sym all_lines)
              (passed_then w 0 g.front (line ∷ lines_of lined.left) g.done (turn ∷ []) g.passed (
                subst (λ (k : ℕ). Comes w k line turn) {x = n + 1} {y = 0 + length g.front + 1} (omega (arith, lines_count)) comes,
                if_stopped (goes_on w turn) (AreTurns w (0 + length g.front + 1) (lines_of lined.left) []) [] goes refl,
              ));
          done = g.done ++ turn ∷ [];
          later = [];
          parts = sym (append-nil (g.done ++ turn ∷ []));
          part = [];
          appends = Appends-same _ _ _ _ (sym (append-nil (texts (g.done ++ turn ∷ [])))) did_now.appends;
          tells = all_said dumb silent' told told'' (tellings w 0 (g.done ++ turn ∷ [])) did_now.tells;
          ends = inl (
            refl,
            refl,
            end_is answer written' failed' None (g.done ++ turn ∷ []) answer_is did_now.written_are did_now.failed_are,
            λ _. taken_by w t (length lined.gone) (g.done ++ turn ∷ []) false
                (long_at_last w g.done turn ∙ ap (λ b. b && not (goes_on w turn)) short)
                (subst (AreLines t (length lined.gone)) (sym (length-append g.done (turn ∷ []))) lines_taken),
          );
        },
        did_now.tells,
      )

    -- memory was refused, and nothing was written
    pub no_memory : w.options.skip < n + 1 → (after : Option (List ℕ)) → Appends is after [] → (failures mid : ℕ) → mid ≡ failures
        → (answer : LinesEnd) → answer ≡ record {
          status = status_by failed (Some Memory);
          written = written;
          failed = failed;
          fault =
              Some Memory;
        }
        → TellsLines w to_come t new failures mid was after dumb silent told told' answer
    no_memory counts after nothing failures mid same answer answer_is =
        let later = turns_behind one w scanned (length g.front) (line ∷ lines_of lined.left) in
        cut_short (length lined.gone) rest_is (line ∷ lines_of lined.left) all_lines later.0 later.1 [] after nothing failures mid same
        answer
        (inr (inl (
          end_is answer written failed (Some Memory) g.done answer_is g.did.written_are g.did.failed_are,
          refl,
          inr
              (omega (arith, counts, g.count), inl lines_taken),
        )))

    -- the sink failed within the text
    pub unwritten : (after : Option (List ℕ)) (text : List ℕ) → Comes w (n + 1) line (Some (Ok text)) → TakesPart is after text
        → (failures mid : ℕ) → mid ≡ failures → (answer : LinesEnd)
        → answer ≡ record { status = status_by failed (Some Write); written = written; failed = failed; fault = Some Write }
        → TellsLines w to_come t new failures mid was after dumb silent told told' answer
    unwritten after text comes (part, missing, rest, begun, took) failures mid same answer answer_is =
        let later = turns_behind one w scanned (length g.front + 1) (lines_of lined.left) in
        let here : Comes w (length g.front + 1) line (Some (Ok text)) =
        subst (λ (k : ℕ). Comes w k line (Some (Ok text))) {x = n + 1} {y = length g.front + 1} (omega (arith, lines_count)) comes in
        cut_short (length lined.gone) rest_is (line ∷ lines_of lined.left) all_lines (Some (Ok text) ∷ later.0) (here, later.1) part after
        took failures mid same answer
        (inl (
          end_is answer written failed (Some Write) g.done answer_is g.did.written_are g.did.failed_are,
          (missing, rest, later.0, ap (λ (y : List ℕ). Some (Ok y) ∷ later.0) begun),
          lines_taken,
        ))

    -- either of these
    pub interrupted : (after : Option (List ℕ)) (fault : LinesFault) → StopsAt w (n + 1) line is after fault
        → (failures mid : ℕ) → mid ≡ failures → (answer : LinesEnd) → answer ≡ record
        { status = status_by failed (Some fault); written = written; failed = failed; fault = Some fault }
        → TellsLines w to_come t new failures mid was after dumb silent told told' answer
    interrupted after fault (inl (memory, counts, nothing)) failures mid same answer answer_is =
        no_memory counts after nothing failures mid same answer (answer_is
        ∙ ap (λ (f : LinesFault). record { status = status_by failed (Some f); written = written; failed = failed; fault = Some f })
        memory)
    interrupted after fault (inr (write, (text, comes, part))) failures mid same answer answer_is =
        unwritten after text comes part failures mid same answer (answer_is
        ∙ ap (λ (f : LinesFault). record { status = status_by failed (Some f); written = written; failed = failed; fault = Some f })
        write)

  -- ---- the next turn

  module _ {new : Ahead S} {after : Option (List ℕ)} {silent' : Bool} {told'' : Option (List ℕ)} where
    -- the loop goes on after it
    pub moves_on : (judged : Judged) → Turns to_come now new w (n + 1) is after silent silent' told' told'' judged → (kept : Unit {0})
        → next_by w.options.keep_going (n + 1) judged ≡ Ok kept
        → Going w to_come t new was after dumb silent' told told'' (counted judged (record { written = written; failed = failed })).written
        (counted judged (record { written = written; failed = failed })).failed (n + 1)
    moves_on Skipped (line, read, (turn, none, comes, wrote, tells)) kept e =
        next line read turn comes after silent' told'' written failed wrote tells
        (omega (arith, ap {B = ℕ} (λ x. cond (is_written x) 1 0) none))
        (omega (arith, ap {B = ℕ} (λ x. cond (turns.is_failed x) 1 0) none)) (ap (goes_on w) none)
    moves_on Written (line, read, (turn, (text, some), comes, wrote, tells)) kept e =
        next line read turn comes after silent' told'' (written + 1) failed wrote tells
        (omega (arith, ap {B = ℕ} (λ x. cond (is_written x) 1 0) some))
        (omega (arith, ap {B = ℕ} (λ x. cond (turns.is_failed x) 1 0) some)) (ap (goes_on w) some)
    moves_on Failed (line, read, (turn, (miss, some), comes, wrote, tells), fits) kept e =
        next line read turn comes after silent' told'' written (failed + 1) wrote tells
        (omega (arith, ap {B = ℕ} (λ x. cond (is_written x) 1 0) some))
        (omega (arith, ap {B = ℕ} (λ x. cond (turns.is_failed x) 1 0) some))
        (ap (goes_on w) some ∙ kept_going w.options.keep_going (n + 1) kept e)
    moves_on (Stopped fault) h kept e = absurd (true≢false (ap is_err e))
    moves_on (Unread why) h kept e = absurd (true≢false (ap is_err e))
    moves_on (Cut why) h kept e = absurd (true≢false (ap is_err e))

    -- it stops there
    pub stops_at : (judged : Judged) → Turns to_come now new w (n + 1) is after silent silent' told' told'' judged
        → (fault : Option LinesFault) → next_by w.options.keep_going (n + 1) judged ≡ Err fault
        → (failures before mid : ℕ) → before ≡ failures → mid ≡ cond (is_read_fault judged) (counted_on before) before
        → (answer : LinesEnd)
        → answer ≡ record {
          status = status_by (counted judged (record { written = written; failed = failed })).failed fault;
          written =
              (counted judged (record { written = written; failed = failed })).written;
          failed =
              (counted judged (record { written = written; failed = failed })).failed;
          fault = fault;
        }
        → TellsLines w to_come t new failures mid was after dumb silent' told told'' answer
    stops_at Skipped h fault e failures before mid same count answer answer_is = absurd (true≢false (sym (ap is_err e)))
    stops_at Written h fault e failures before mid same count answer answer_is = absurd (true≢false (sym (ap is_err e)))
    stops_at Failed (line, read, (turn, (miss, some), comes, wrote, tells), fits) fault e failures before mid same count answer answer_is
        =
        let stopped = stopped_by w.options.keep_going (n + 1) fault e in
        stops line read turn comes after silent' told'' written (failed + 1) wrote tells
        (omega (arith, ap {B = ℕ} (λ x. cond (is_written x) 1 0) some))
        (omega (arith, ap {B = ℕ} (λ x. cond (turns.is_failed x) 1 0) some))
        (ap (goes_on w) some ∙ stopped.0) (short_turn w (n + 1) line turn comes (fits stopped.0)) failures mid (count ∙ same) answer
        (answer_is ∙ ap (λ f. record { status = status_by (failed + 1) f; written = written; failed = failed + 1; fault = f })
        stopped.1)
    stops_at (Stopped why) (line, read, (stops_so, quiet, untold)) fault e failures before mid same count answer answer_is =
        let here : TellsLines w to_come t new failures mid was after dumb silent told told' answer =
        interrupted line read after why stops_so failures mid (count ∙ same) answer
        (answer_is ∙ ap (λ f. record { status = status_by failed f; written = written; failed = failed; fault = f })
        (ap (fault_in None) (sym e))) in
        subst (λ s. TellsLines w to_come t new failures mid was after dumb s told told'' answer) (sym quiet)
        (subst (λ y. TellsLines w to_come t new failures mid was after dumb silent told y answer) (sym untold) here)
    stops_at (Unread why) (none, unwritten_is, quiet, untold) fault e failures before mid same count answer answer_is =
        let here : TellsLines w to_come t new failures mid was is dumb silent told told' answer =
        no_line why none failures before mid same count answer
        (answer_is ∙ ap (λ f. record { status = status_by failed f; written = written; failed = failed; fault = f })
        (ap (fault_in None) (sym e))) in
        subst (λ s. TellsLines w to_come t new failures mid was after dumb s told told'' answer) (sym quiet)
        (subst (λ y. TellsLines w to_come t new failures mid was after dumb silent told y answer) (sym untold)
        (subst (λ a. TellsLines w to_come t new failures mid was a dumb silent told told' answer) (sym unwritten_is) here))
    stops_at (Cut why) (part, lost', open', long, within', (turn, (miss, some), comes, wrote, tells)) fault e failures before mid same count
        answer answer_is = by why within' count (answer_is
        ∙ ap (λ f. record { status = status_by (failed + 1) f; written = written; failed = failed + 1; fault = f })
        (ap (fault_in None) (sym e)))
      where
        all : (more : List ℕ) → Comes w (n + 1) (part ++ more) turn
        all more = comes_whole w (n + 1) part more turn long comes

        same_written : written ≡ written + cond (is_written turn) 1 0
        same_written = omega (arith, ap {B = ℕ} (λ x. cond (is_written x) 1 0) some)

        one_failed : failed + 1 ≡ failed + cond (turns.is_failed turn) 1 0
        one_failed = omega (arith, ap {B = ℕ} (λ x. cond (turns.is_failed x) 1 0) some)

        by : (why : LineRead) → StopsWithin new w.options.keep_going part why → mid ≡ cond (is_failed why) (counted_on before) before
            → answer ≡ record {
              status = status_by (failed + 1) (fault_after (n + 1) why);
              written = written;
              failed = failed + 1;
              fault = fault_after (n + 1) why;
            } → TellsLines w to_come t new failures mid was after dumb silent' told told'' answer
        by reads.Line h c a = absurd h
        by reads.End h c a = absurd h
        by reads.NoMemory h c a = absurd h
        by reads.TooLong stops c a =
            stops_within part lost' turn after silent' told'' written (failed + 1) wrote tells same_written one_failed all long
            (ap (goes_on w) some ∙ stops) (long_turn w (n + 1) part turn miss comes long some) failures mid (c ∙ same) answer a
        by reads.Fault (goes, ended', held) c a =
            fails_within part lost' turn after silent' told'' written (failed + 1) wrote tells same_written one_failed all long
            (ap (goes_on w) some ∙ goes) open' held failures mid before same c answer a
        by reads.Endless (goes, many) c a =
            endless_within part lost' turn after silent' told'' written (failed + 1) wrote tells same_written one_failed all
            (ap (goes_on w) some ∙ goes) many failures mid (c ∙ same) answer a

-- no store could be had
pub no_store : {S : Type 0} → EachHasOneReport → (w : LineWork) → AreScanned w
    → (to_come : S → Option (List ℕ)) (t : List ℕ) (now : Ahead S) (was : Option (List ℕ)) (dumb : Bool) (told : Option (List ℕ))
    → input_of to_come now ≡ Some t → (failures : ℕ) (answer : LinesEnd)
    → answer ≡ record { status = status_by 0 (Some Memory); written = 0; failed = 0; fault = Some Memory }
    → TellsLines w to_come t now failures failures was was dumb dumb told told answer
unfolding starts
no_store one w scanned to_come t now was dumb told input failures answer answer_is =
    let more = turns_behind one w scanned 0 (lines_of t) in
    cut_short one scanned (starts w to_come t now was dumb told input) 0 input (lines_of t) refl more.0 more.1 [] was
    (Appends-none was) failures failures refl answer (inr (inl (answer_is, refl, inl (refl, refl))))

-- ---- what a turn says of the sink and the source

pub quiet_on : (keep_going : Bool) (number : ℕ) (judged : Judged) (kept : Unit {0}) → next_by keep_going number judged ≡ Ok kept
    → (is_read_fault judged ≡ false) × (is_write_fault judged ≡ false)
quiet_on keep_going number Skipped kept e = (refl, refl)
quiet_on keep_going number Written kept e = (refl, refl)
quiet_on keep_going number Failed kept e = (refl, refl)
quiet_on keep_going number (Stopped fault) kept e = absurd (true≢false (ap is_err e))
quiet_on keep_going number (Unread why) kept e = absurd (true≢false (ap is_err e))
quiet_on keep_going number (Cut why) kept e = absurd (true≢false (ap is_err e))

no_write : (number : ℕ) (why : LineRead) → is_write (fault_after number why) ≡ false
no_write number reads.Line = refl
no_write number reads.TooLong = refl
no_write number reads.End = refl
no_write number reads.Fault = refl
no_write number reads.Endless = refl
no_write number reads.NoMemory = refl

pub write_told : (keep_going : Bool) (number : ℕ) (judged : Judged) (fault : Option LinesFault)
    → next_by keep_going number judged ≡ Err fault → is_write fault ≡ is_write_fault judged
write_told keep_going number Skipped fault e = absurd (true≢false (sym (ap is_err e)))
write_told keep_going number Written fault e = absurd (true≢false (sym (ap is_err e)))
write_told true number Failed fault e = absurd (true≢false (sym (ap is_err e)))
write_told false number Failed fault e = ap is_write (ap (fault_in None) (sym e))
write_told keep_going number (Stopped why) fault e = ap is_write (ap (fault_in None) (sym e)) ∙ by why
  where
    by : (why : LinesFault) → is_write (Some why) ≡ is_write_fault (Stopped why)
    by (Read line) = refl
    by Write = refl
    by Memory = refl
    by TooMany = refl
write_told keep_going number (Unread why) fault e = ap is_write (ap (fault_in None) (sym e)) ∙ no_write number why
write_told keep_going number (Cut why) fault e = ap is_write (ap (fault_in None) (sym e)) ∙ no_write number why

-- each line is counted once
pub counted_within : (judged : Judged) (written failed n : ℕ) → written ≤ n → failed ≤ n
    → ((counted judged (record { written = written; failed = failed })).written ≤ n + 1)
    × ((counted judged (record { written = written; failed = failed })).failed ≤ n + 1)
counted_within Skipped written failed n p q = (omega (arith, p), omega (arith, q))
counted_within Written written failed n p q = (omega (arith, p), omega (arith, q))
counted_within Failed written failed n p q = (omega (arith, p), omega (arith, q))
counted_within (Stopped fault) written failed n p q = (omega (arith, p), omega (arith, q))
counted_within (Unread why) written failed n p q = (omega (arith, p), omega (arith, q))
counted_within (Cut why) written failed n p q = (omega (arith, p), omega (arith, q))
