-- What came of a line that was taken.
use Rattle.std.proofs.Common.{◌≡◌, ℕ, ◌<◌, ◌≤◌, Bool, true, false, cond, List, [], ◌∷◌, ◌++◌, length, take, Option, Some, None, Ok, Err}
use Rattle.std.proofs.Common.{◌⊎◌, inl, inr, refl, sym, ap, subst, ◌∙◌, true≢false, ◌&&◌, arith, append_assoc, append-nil, length-append}
use Rattle.std.proofs.KnownBytes.{Consumes-nil, Consumes-trans}
use Rattle.std.specs.Io.KnownBytes.{Appends, IsAtEnd, Keeps}
use Rattle.sf_format.specs.declared.directive.Directive.{Directive}
use Rattle.sf_forms.specs.declared.makers.maker.Unwritten.TheVariants as unwritten
use Rattle.sf_print.proofs.Appending.{Appends-keeps, Appends-none}
use Rattle.sf_read.specs.source.Ahead.{Ahead, input_of}
use Rattle.sf_read.specs.declared.line.line.LineRead.{LineRead}
use Rattle.sf_read.specs.declared.line.line.LineRead.TheVariants as reads
use Rattle.sf_read.proofs.LineLemmas.Cutting.{line_append}
use Rattle.sf_run.specs.Runs.{RunReport}
use Rattle.sf_records.specs.declared.by_lines.end.LineFault.{LineFault}
use Rattle.sf_records.specs.declared.by_lines.end.LineFault.TheVariants.{TooLong, Unfit}
use Rattle.sf_records.specs.declared.by_lines.end.LinesFault.TheVariants as faults
use Rattle.sf_records.specs.declared.by_lines.judge.Judged.{Judged}
use Rattle.sf_records.specs.declared.by_lines.judge.Judged.TheVariants.{Skipped, Written, Failed, Cut, Stopped, Unread}
use Rattle.sf_records.specs.declared.by_lines.judge.Tried.{Tried}
use Rattle.sf_records.specs.declared.by_lines.judge.Tried.TheVariants.{Matched, Missed, Refused}
use Rattle.sf_records.specs.declared.by_lines.judge.Verdict.{Verdict}
use Rattle.sf_records.specs.declared.by_lines.judge.Verdict.TheVariants.{Is, Fails}
use Rattle.sf_records.specs.by_lines.Coming.{Came, IsTold, Passes, PassesRest, StopsWithin, Turns, is_read_fault}
use Rattle.sf_records.specs.by_lines.Telling.{Tells}
use Rattle.sf_records.specs.by_lines.Judging.{TriesEach, is_matched, is_unwritten, is_write_fault, verdict_by}
use Rattle.sf_read.specs.line.Reading.{Loses, Reads, Took, TookPart}
use Rattle.sf_records.specs.by_lines.Turns.{Comes, IsIgnored, IsRead, LineWork, Picks, Turn, fault_of, is_other, judged, written_by}
use Rattle.sf_records.specs.by_lines.Turns.{number_of}
use Rattle.sf_records.proofs.LinewiseLemmas.Telling.{tells_nothing}
use Rattle.sf_records.proofs.LinewiseLemmas.Turning.{comes_whole}

-- ---- a verdict

abbrev verdict_is : Judged → Verdict → Judged
verdict_is other (Is judged) = judged
verdict_is other (Fails fault) = other

abbrev fault_is : LineFault → Verdict → LineFault
fault_is other (Is judged) = other
fault_is other (Fails fault) = fault

abbrev fails : Verdict → Bool
fails (Is judged) = false
fails (Fails fault) = true

-- nothing was read
pub no_read_fault : (matching : Bool) (tried : Tried) (judged : Judged) → verdict_by matching tried ≡ Is judged
    → is_read_fault judged ≡ false
no_read_fault matching (Matched (Ok done)) judged e = ap (λ v. is_read_fault (verdict_is Skipped v)) (sym e)
no_read_fault matching (Matched (Err unwritten.Unfit)) judged e = absurd (true≢false (ap fails e))
no_read_fault matching (Matched (Err unwritten.Write)) judged e = ap (λ v. is_read_fault (verdict_is Skipped v)) (sym e)
no_read_fault matching (Matched (Err unwritten.Memory)) judged e = ap (λ v. is_read_fault (verdict_is Skipped v)) (sym e)
no_read_fault matching Refused judged e = ap (λ v. is_read_fault (verdict_is Skipped v)) (sym e)
no_read_fault matching (Missed fault) judged e = by (matching && is_other fault) e
  where
    by : (b : Bool) → cond b (Is Skipped) (Fails fault) ≡ Is judged → is_read_fault judged ≡ false
    by true h = ap (λ v. is_read_fault (verdict_is Skipped v)) (sym h)
    by false h = absurd (true≢false (ap fails h))

-- the sink failed within what was to be written, or not
pub sink_fault : (matching : Bool) (tried : Tried) (judged : Judged) → verdict_by matching tried ≡ Is judged
    → is_unwritten tried ≡ is_write_fault judged
sink_fault matching (Matched (Ok done)) judged e = ap (λ v. is_write_fault (verdict_is Skipped v)) e
sink_fault matching (Matched (Err unwritten.Unfit)) judged e = absurd (true≢false (ap fails e))
sink_fault matching (Matched (Err unwritten.Write)) judged e = ap (λ v. is_write_fault (verdict_is Skipped v)) e
sink_fault matching (Matched (Err unwritten.Memory)) judged e = ap (λ v. is_write_fault (verdict_is Skipped v)) e
sink_fault matching Refused judged e = ap (λ v. is_write_fault (verdict_is Skipped v)) e
sink_fault matching (Missed fault) judged e = by (matching && is_other fault) e
  where
    by : (b : Bool) → cond b (Is Skipped) (Fails fault) ≡ Is judged → false ≡ is_write_fault judged
    by true h = ap (λ v. is_write_fault (verdict_is Skipped v)) h
    by false h = absurd (true≢false (ap fails h))

pub no_sink_fault : (matching : Bool) (tried : Tried) (fault : LineFault) → verdict_by matching tried ≡ Fails fault
    → is_unwritten tried ≡ false
no_sink_fault matching (Matched (Ok done)) fault e = refl
no_sink_fault matching (Matched (Err unwritten.Unfit)) fault e = refl
no_sink_fault matching (Matched (Err unwritten.Write)) fault e = absurd (true≢false (sym (ap fails e)))
no_sink_fault matching (Matched (Err unwritten.Memory)) fault e = refl
no_sink_fault matching Refused fault e = refl
no_sink_fault matching (Missed why) fault e = refl

-- ---- a line that is judged

module _ (w : LineWork) (number : ℕ) (line : List ℕ) (is after : Option (List ℕ))
    (counts : w.options.skip < number) (short : length line ≤ w.options.limit) where
  -- it is passed over
  pub came_ignored : (silent : Bool) (told : Option (List ℕ)) → IsIgnored w line
      → Came w number line is is silent silent told told Skipped
  came_ignored silent told ignored =
      (None, refl, inr (counts, inr (short, inl (ignored, refl))), Appends-none is, tells_nothing silent told)

  -- memory was refused
  pub came_refused : (silent : Bool) (told : Option (List ℕ)) → Appends is after []
      → Came w number line is after silent silent told told (Stopped faults.Memory)
  came_refused silent told nothing = (inl (refl, counts, nothing), refl, refl)

  module _ (read : IsRead w line) where
    -- what comes of it by the format that counts
    counted_so : (ds : List Directive) (r : RunReport) → (picks : Picks w.options w.formats line ds r) → (fault : Option LineFault)
        → fault_of w.options line r ≡ fault → (turn : Turn)
        → turn ≡ judged w.options.matching (w.makes (number_of picks) ds) r line fault
        → Comes w number line turn
    counted_so ds r picks fault is_so turn turn_is =
        inr (
          counts,
          inr (
            short,
            inr (
              read,
              (
                ds,
                r,
                picks,
                turn_is ∙ ap (judged w.options.matching (w.makes (number_of picks) ds) r line) (sym is_so),
              ),
            ),
          ),
        )

    -- it is told of by nobody
    pub came_so : (silent : Bool) (told : Option (List ℕ)) (tried : Tried)
        → TriesEach w.options w.formats w.makes line is after tried → (is_matched tried ≡ false → after ≡ is)
        → (answer : Judged) → verdict_by w.options.matching tried ≡ Is answer → Came w number line is after silent silent told told answer
    came_so silent told (Matched (Ok done)) (ds, r, picks, none, (fits, wrote)) same answer e =
        subst (Came w number line is after silent silent told told) (ap (verdict_is Skipped) e) (
          Some (Ok ((w.makes (number_of picks) ds).text r)),
          ((w.makes (number_of picks) ds).text r, refl),
          counted_so ds r picks None none (Some (Ok ((w.makes (number_of picks) ds).text r)))
              (ap (λ b. written_by b ((w.makes (number_of picks) ds).text r) line) (sym fits)),
          wrote,
          tells_nothing silent told,
        )
    came_so silent told (Matched (Err unwritten.Unfit)) h same answer e = absurd (true≢false (ap fails e))
    came_so silent told (Matched (Err unwritten.Write)) (ds, r, picks, none, (fits, part)) same answer e =
        subst (Came w number line is after silent silent told told) (ap (verdict_is Skipped) e) (
          inr (
            refl,
            (
              (w.makes (number_of picks) ds).text r,
              counted_so ds r picks None none (Some (Ok ((w.makes (number_of picks) ds).text r)))
                  (ap (λ b. written_by b ((w.makes (number_of picks) ds).text r) line) (sym fits)),
              part,
            ),
          ),
          refl,
          refl,
        )
    came_so silent told (Matched (Err unwritten.Memory)) (ds, r, picks, none, (fits, nothing)) same answer e =
        subst (Came w number line is after silent silent told told) (ap (verdict_is Skipped) e) (came_refused silent told nothing)
    came_so silent told Refused h same answer e =
        subst (Came w number line is after silent silent told told) (ap (verdict_is Skipped) e)
        (came_refused silent told (subst (λ a. Appends is a []) (sym (same refl)) (Appends-none is)))
    came_so silent told (Missed fault) (ds, r, picks, some) same answer e = by (w.options.matching && is_other fault) refl e
      where
        nothing : Appends is after []
        nothing = subst (λ a. Appends is a []) (sym (same refl)) (Appends-none is)

        by : (b : Bool) → (w.options.matching && is_other fault) ≡ b → cond b (Is Skipped) (Fails fault) ≡ Is answer
            → Came w number line is after silent silent told told answer
        by true test h =
            subst (Came w number line is after silent silent told told) (ap (verdict_is Skipped) h) (
              None,
              refl,
              counted_so ds r picks (Some fault) some None (ap (λ x. cond x None (Some (Err (line, fault)))) (sym test)),
              nothing,
              tells_nothing silent told,
            )
        by false test h = absurd (true≢false (ap fails h))

    -- it fails
    pub comes_failed : (tried : Tried) → TriesEach w.options w.formats w.makes line is after tried
        → (is_matched tried ≡ false → after ≡ is) → (fault : LineFault) → verdict_by w.options.matching tried ≡ Fails fault
        → Comes w number line (Some (Err (line, fault))) × Appends is after []
    comes_failed (Matched (Ok done)) h same fault e = absurd (true≢false (sym (ap fails e)))
    comes_failed (Matched (Err unwritten.Unfit)) (ds, r, picks, none, (unfit, nothing)) same fault e = (
      subst (λ f. Comes w number line (Some (Err (line, f)))) (ap (fault_is Unfit) e)
          (counted_so ds r picks None none (Some (Err (line, Unfit)))
          (ap (λ b. written_by b ((w.makes (number_of picks) ds).text r) line) (sym unfit))),
      nothing,
    )
    comes_failed (Matched (Err unwritten.Write)) h same fault e = absurd (true≢false (sym (ap fails e)))
    comes_failed (Matched (Err unwritten.Memory)) h same fault e = absurd (true≢false (sym (ap fails e)))
    comes_failed Refused h same fault e = absurd (true≢false (sym (ap fails e)))
    comes_failed (Missed why) (ds, r, picks, some) same fault e = (
      by (w.options.matching && is_other why) refl e,
      subst (λ a. Appends is a []) (sym (same refl)) (Appends-none is),
    )
      where
        by : (b : Bool) → (w.options.matching && is_other why) ≡ b → cond b (Is Skipped) (Fails why) ≡ Fails fault
            → Comes w number line (Some (Err (line, fault)))
        by true test h = absurd (true≢false (sym (ap fails h)))
        by false test h =
            subst (λ f. Comes w number line (Some (Err (line, f)))) (ap (fault_is Unfit) h)
            (counted_so ds r picks (Some why) some (Some (Err (line, why))) (ap (λ x. cond x None (Some (Err (line, why)))) (sym test)))

-- ---- a line that fails

-- It is told of; the teller was lent the sink, which kept what it had taken.
pub came_told : (w : LineWork) (number : ℕ) (line read : List ℕ) (fault : LineFault) (is after ends : Option (List ℕ))
    (silent silent' : Bool) (told told' : Option (List ℕ)) → w.options.skip < number
    → Comes w number line (Some (Err (read, fault))) → Appends is after [] → Keeps after ends
    → (judged : Judged) → IsTold silent silent' told told' (w.telling number read fault) judged
    → Came w number line is ends silent silent' told told' judged
came_told w number line read fault is after ends silent silent' told told' counts comes nothing keeps Failed tells =
    (Some (Err (read, fault)), ((read, fault), refl), comes, Appends-keeps is after ends [] nothing keeps, tells)
came_told w number line read fault is after ends silent silent' told told' counts comes nothing keeps (Stopped why)
    (memory, silent_is, told_is) = (inl (memory, counts, Appends-keeps is after ends [] nothing keeps), silent_is, told_is)
came_told w number line read fault is after ends silent silent' told told' counts comes nothing keeps Written tells = absurd tells
came_told w number line read fault is after ends silent silent' told told' counts comes nothing keeps Skipped tells = absurd tells
came_told w number line read fault is after ends silent silent' told told' counts comes nothing keeps (Cut why) tells = absurd tells
came_told w number line read fault is after ends silent silent' told told' counts comes nothing keeps (Unread why) tells = absurd tells

-- ---- a line that was taken

module _ {S : Type 0} (to_come : S → Option (List ℕ)) (now new : Ahead S) (w : LineWork) (number : ℕ) (is after : Option (List ℕ))
    (silent silent' : Bool) (told told' : Option (List ℕ)) where
  pub turned : (line : List ℕ) → Took to_come now new line → length line ≤ w.options.limit → (judged : Judged)
      → Came w number line is after silent silent' told told' judged → Turns to_come now new w number is after silent silent' told told'
      judged
  turned line took short Skipped h = (line, took, h)
  turned line took short Written h = (line, took, h)
  turned line took short Failed h = (line, took, h, λ _. short)
  turned line took short (Stopped fault) h = (line, took, h)
  turned line took short (Unread why) h = absurd h
  turned line took short (Cut why) h = absurd h.1

-- a line that was passed over
pub turned_skipped : {S : Type 0} (to_come : S → Option (List ℕ)) (now new : Ahead S) (w : LineWork) (number : ℕ) (is : Option (List ℕ))
    (silent : Bool) (told : Option (List ℕ)) → number ≤ w.options.skip
    → (judged : Judged) → Passes to_come now new judged → Turns to_come now new w number is is silent silent told told judged
turned_skipped to_come now new w number is silent told few Skipped (line, took) =
    (line, took, (None, refl, inl (few, refl), Appends-none is, tells_nothing silent told))
turned_skipped to_come now new w number is silent told few (Unread why) (part, read, no_line, no_long, no_memory) = (
  record {
    line = part;
    told = inl (few, read);
    no_line = no_line;
    no_long = no_long;
    unskipped = λ e. absurd (no_memory e);
    skipped = λ _. few;
  },
  refl,
  refl,
  refl,
)
turned_skipped to_come now new w number is silent told few Written h = absurd h
turned_skipped to_come now new w number is silent told few Failed h = absurd h
turned_skipped to_come now new w number is silent told few (Stopped fault) h = absurd h
turned_skipped to_come now new w number is silent told few (Cut why) h = absurd h

-- ---- a line above the limit

-- its rest was taken, after a part of it
took_rest : {S : Type 0} (to_come : S → Option (List ℕ)) (old mid new : Ahead S) (part line : List ℕ) → TookPart to_come old mid part
    → old.at_end ≡ false → Took to_come mid new line → Took to_come old new (part ++ line)
took_rest to_come old mid new part line lost open' took = record {
  is_line = line_append part line lost.is_line took.is_line;
  before = open';
  bytes = by took.bytes;
}
  where
    by : Loses to_come mid new (line ++ 10 ∷ []) ⊎ Loses to_come mid new line × (0 < length line) × (new.at_end ≡ true)
        × IsAtEnd (input_of to_come new)
        → Loses to_come old new ((part ++ line) ++ 10 ∷ []) ⊎ Loses to_come old new (part ++ line) × (0 < length (part ++ line))
        × (new.at_end ≡ true) × IsAtEnd (input_of to_come new)
    by (inl loses) = inl (subst (λ (y : List ℕ). Loses to_come old new y) (sym (append_assoc part line (10 ∷ [])))
        (Consumes-trans _ _ _ part (line ++ 10 ∷ []) lost.bytes loses))
    by (inr (loses, some, ended, known)) =
        inr (Consumes-trans _ _ _ part line lost.bytes loses, omega (arith, some, length-append part line), ended, known)

-- there was no rest
took_all : {S : Type 0} (to_come : S → Option (List ℕ)) (old mid new : Ahead S) (part : List ℕ) → TookPart to_come old mid part
    → old.at_end ≡ false → 0 < length part → TookPart to_come mid new [] → new.at_end ≡ true → IsAtEnd (input_of to_come new)
    → Took to_come old new part
took_all to_come old mid new part lost open' some nothing ended known = record {
  is_line = lost.is_line;
  before = open';
  bytes = inr (
    subst (λ (y : List ℕ). Loses to_come old new y) (append-nil part) (Consumes-trans _ _ _ part [] lost.bytes nothing.bytes),
    some,
    ended,
    known,
  );
}

-- more of it was taken
took_more : {S : Type 0} (to_come : S → Option (List ℕ)) (old mid new : Ahead S) (part more : List ℕ) → TookPart to_come old mid part
    → TookPart to_come mid new more → TookPart to_come old new (part ++ more)
took_more to_come old mid new part more lost later = record {
  is_line = line_append part more lost.is_line later.is_line;
  bytes = Consumes-trans _ _ _ part more lost.bytes later.bytes;
}

module _ {S : Type 0} (to_come : S → Option (List ℕ)) (old mid new : Ahead S) (w : LineWork) (number : ℕ) (part line : List ℕ)
    (is after : Option (List ℕ)) (silent silent' : Bool) (told told' : Option (List ℕ)) (counts : w.options.skip < number)
    (lost : TookPart to_come old mid part) (open' : old.at_end ≡ false) (long : w.options.limit < length part)
    (front : line ≡ take w.options.limit part) (nothing : Appends is after [])
    (tells : Tells silent silent' told told' (w.telling number line TooLong)) where
  long_comes : (more : List ℕ) → Comes w number (part ++ more) (Some (Err (line, TooLong)))
  long_comes more = comes_whole w number part more (Some (Err (line, TooLong))) long
      (inr (counts, inl (long, ap (λ (y : List ℕ). Some (Err (y, TooLong))) front)))

  -- the loop stops within it, after so many more bytes
  stops_in : (more : List ℕ) → TookPart to_come mid new more → (why : LineRead)
      → StopsWithin new w.options.keep_going (part ++ more) why
      → Turns to_come old new w number is after silent silent' told told' (Cut why)
  stops_in more later why stops = (
    part ++ more,
    took_more to_come old mid new part more lost later,
    open',
    omega (arith, long, length-append part more),
    stops,
    (Some (Err (line, TooLong)), ((line, TooLong), refl), long_comes more, nothing, tells),
  )

  taken_whole : (more : List ℕ) → Took to_come old new (part ++ more) → w.options.keep_going ≡ true
      → Turns to_come old new w number is after silent silent' told told' Failed
  taken_whole more took goes = (
    part ++ more,
    took,
    (Some (Err (line, TooLong)), ((line, TooLong), refl), long_comes more, nothing, tells),
    λ stops. absurd (true≢false (sym goes ∙ stops)),
  )

  nothing_more : new ≡ mid → TookPart to_come mid new []
  nothing_more same = record {
    is_line = tt;
    bytes = subst (λ (a : Ahead S). Loses to_come mid a []) (sym same) (Consumes-nil (input_of to_come mid));
  }

  stops_for : (why : LineRead) (items : List ℕ) → w.options.keep_going ≡ true → Reads to_come mid new 0 items why → (why ≡ reads.Line → ⊥)
      → (why ≡ reads.TooLong → ⊥) → (why ≡ reads.End → ⊥) → (why ≡ reads.NoMemory → ⊥)
      → Turns to_come old new w number is after silent silent' told told' (Cut why)
  stops_for reads.Line items goes h no_line no_long no_end no_memory = absurd (no_line refl)
  stops_for reads.TooLong items goes h no_line no_long no_end no_memory = absurd (no_long refl)
  stops_for reads.End items goes h no_line no_long no_end no_memory = absurd (no_end refl)
  stops_for reads.Fault items goes (more, later, opened, ended, held) no_line no_long no_end no_memory =
      stops_in more later reads.Fault (goes, ended, held)
  stops_for reads.Endless items goes (more, later, many) no_line no_long no_end no_memory =
      stops_in more later reads.Endless (goes, omega (arith, many, length-append part more))
  stops_for reads.NoMemory items goes h no_line no_long no_end no_memory = absurd (no_memory refl)

  pub rest_passed : (judged : Judged) → PassesRest to_come mid new w.options.keep_going judged
      → Turns to_come old new w number is after silent silent' told told' judged
  rest_passed Failed (goes, inl (more, took)) = taken_whole more (took_rest to_come old mid new part more lost open' took) goes
  rest_passed Failed (goes, inr (none, ended, known)) =
      taken_whole [] (subst (λ (y : List ℕ). Took to_come old new y) (sym (append-nil part))
      (took_all to_come old mid new part lost open' (omega (arith, long)) none ended known)) goes
  rest_passed (Cut why) (inl (stops, is_long, same)) =
      subst (λ (r : LineRead). Turns to_come old new w number is after silent silent' told told' (Cut r)) (sym is_long)
      (stops_in [] (nothing_more same) reads.TooLong stops)
  rest_passed (Cut why) (inr (goes, (items, h, no_line, no_long, no_end, no_memory))) =
      stops_for why items goes h no_line no_long no_end no_memory
  rest_passed Skipped h = absurd h
  rest_passed Written h = absurd h
  rest_passed (Stopped fault) h = absurd h
  rest_passed (Unread why) h = absurd h
