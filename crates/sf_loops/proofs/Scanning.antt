-- The run over a line that was read.
use Rattle.std.proofs.Common.{◌≡◌, ◌≤◌, ◌<◌, ℕ, List, [], length, Option, Some, None, Result, Ok, Err, Bool, true, false}
use Rattle.std.proofs.Common.{refl, sym}
use Rattle.std.proofs.Common.{ap, subst, ◌∙◌}
use Rattle.std.specs.Prelude.{IsSome, if◌then◌else◌, unwrap_or}
use Rattle.sf_base.specs.Data.{Assigned}
use Rattle.sf_format.specs.Widths.{width_sum}
use Rattle.sf_run.specs.outcome.Ending.TheVariants.{End}
use Rattle.sf_run.specs.outcome.Outcome.{Outcome}
use Rattle.sf_run.specs.Limits.{RunTold, RunWithin}
use Rattle.sf_run.specs.Runs.{RunReport}
use Rattle.sf_run.specs.Views.{report_by}
use Rattle.sf_run.specs.outcome.Status.{Status}
use Rattle.sf_run.specs.outcome.Status.TheVariants as status
use Rattle.sf_read.specs.AtOnce.{IsSeenAtOnce}
use Rattle.sf_read.proofs.AtOnce.{seen_roomier}
use Rattle.sf_read.specs.source.Counts.{counted_on}
use Rattle.sf_format.specs.declared.directive.Directive.{Directive}
use Rattle.sf_read.specs.source.Ahead.{Ahead}
use Rattle.sf_read.specs.declared.line.line.LineRead.{LineRead}
use Rattle.sf_read.specs.declared.line.line.LineRead.TheVariants as reads
use Rattle.sf_read.specs.declared.line.line.LineRead.TheVariants.{NoMemory as NoRoom}
use Rattle.sf_read.specs.line.Reading.{Outgrows, Reads, UsesLine, is_failed}
use Rattle.sf_loops.specs.declared.line_fault.LineFault.{LineFault}
use Rattle.sf_loops.specs.declared.line_fault.LineStop.{LineStop}
use Rattle.sf_loops.specs.declared.line_fault.LineWhy.{LineWhy}
use Rattle.sf_loops.specs.declared.line_fault.LineWhy.TheVariants as why
use Rattle.sf_read.specs.declared.matching.Match.{Match}
use Rattle.sf_read.specs.declared.matching.Match.TheVariants.{Front, Whole}
use Rattle.sf_read.specs.Matches.{leaves}
use Rattle.sf_loops.specs.Lines.{Comes, DoneBy, IsLineFault, IsLineLoop, IsNextLine, IsScanned, Judged, LineLoop, Misses, Stops}
use Rattle.sf_loops.specs.Turns.{outcome_of}

-- a report whose parts are these
pub report_made : (o : Outcome) (values : List Assigned) (r : RunReport) → o.status ≡ r.status → o.at ≡ r.at → o.assigned ≡ r.assigned
    → o.converted ≡ r.converted → o.used ≡ r.used → o.met ≡ r.met → values ≡ r.values → r ≡ report_by o values
report_made o values r status at assigned converted used met are = rw (status, at, assigned, converted, used, met, are) refl

-- the report of the line of a loop that is known by another name
pub scanned_as : {S : Type 0} (was old new : LineLoop S) (text : List ℕ) (report : RunReport) → was ≡ old → text ≡ was.line
    → report ≡ new.report → RunTold was.format was.limit text End report
    → (IsSome (width_sum was.format) → RunWithin was.format was.limit text End report) → IsScanned old new old.line
scanned_as {S} was old new text report same line is told bounded =
    subst (λ (l : LineLoop S). IsScanned l new l.line) same (record {
      told = subst (λ (r : RunReport). RunTold was.format was.limit was.line End r) is
          (subst (λ (t : List ℕ). RunTold was.format was.limit t End report) line told);
      bounded = λ some. subst (λ (r : RunReport). RunWithin was.format was.limit was.line End r) is
          (subst (λ (t : List ℕ). RunWithin was.format was.limit t End report) line (bounded some));
    })

-- the loop has the same report afterwards
pub scanned_on : {S : Type 0} (old mid new : LineLoop S) (text : List ℕ) → IsScanned old mid text → new.report ≡ mid.report
    → IsScanned old new text
scanned_on old mid new text h is = record {
  told = subst (λ (r : RunReport). RunTold old.format old.limit text End r) (sym is) h.told;
  bounded = λ some. subst (λ (r : RunReport). RunWithin old.format old.limit text End r) (sym is) (h.bounded some);
}

-- nor did its report before matter, nor its room
pub scanned_from : {S : Type 0} (old mid new : LineLoop S) (r : RunReport) (room : ℕ) → mid ≡ record old { report = r; room = room }
    → IsScanned mid new mid.line
    → IsScanned old new old.line
scanned_from {S} old mid new r room is h =
    let same : IsScanned (record old { report = r; room = room }) new old.line = subst (λ (l : LineLoop S). IsScanned l new l.line) is h in
    record { told = same.told; bounded = same.bounded }

-- the run of the line of a loop that is known by another name
pub ran_as : {S : Type 0} (was old : LineLoop S) (line : List ℕ) (r : RunReport) → was ≡ old → line ≡ was.line
    → RunWithin was.format was.limit line End r → RunWithin old.format old.limit old.line End r
ran_as {S} was old line r same is run =
    subst (λ (l : LineLoop S). RunWithin l.format l.limit l.line End r) same
    (subst (λ (x : List ℕ). RunWithin was.format was.limit x End r) is run)

-- ---- what comes of a line

-- a line fails, and the loop goes on
pub missed : {S : Type 0} (old new : LineLoop S) (text : List ℕ) (why' : LineWhy) (fault : LineFault) → new.format ≡ old.format
    → new.limit ≡ old.limit → new.read ≡ counted_on old.read → new.over ≡ None → IsLineFault fault (counted_on old.read) text why'
    → Misses old new text why' (Err fault)
missed old new text why' fault format limit read over told =
    (told, record { format = format; limit = limit; read_are = read; over_is = over })

-- the loop ends
pub stopped : {S : Type 0} (old new : LineLoop S) (why' : LineWhy) (fault : LineFault) → new.format ≡ old.format
    → new.limit ≡ old.limit → new.read ≡ old.read → new.over ≡ Some (Some (record { number = counted_on old.read; why = why' }))
    → IsLineFault fault (counted_on old.read) [] why' → Stops old new why' (Err fault)
stopped old new why' fault format limit read over told =
    (told, record { format = format; limit = limit; read_are = read; over_is = over })

-- what leaves some of a text that it had to use is Done
pub left_done : (w : Match) (s : Status) (used len : ℕ) → leaves w s used len ≡ true → s ≡ status.Done
left_done Front s used len h = absurd cc
left_done Whole status.Done used len h = refl
left_done Whole status.NoMemory used len h = absurd cc
left_done Whole status.InputFailure used len h = absurd cc
left_done Whole status.MatchingFailure used len h = absurd cc
left_done Whole status.OutOfRange used len h = absurd cc
left_done Whole status.TooLong used len h = absurd cc

-- a run that is Done and leaves some of the line that a match has to use
pub judged_left : {S : Type 0} (old new : LineLoop S) (s : Status) (text : List ℕ) (result : Result Bool LineFault) → s ≡ status.Done
    → leaves old.matching s new.report.used (length text) ≡ true → Misses old new text (why.LeftOver new.report.used) result
    → Judged old new s text result
judged_left {S} old new s text result is left h =
    subst (λ (x : Status). Judged old new x text result) (sym is) (subst (λ v. DoneBy old new v text result)
    (sym (subst (λ (x : Status). leaves old.matching x new.report.used (length text) ≡ true) is left)) h)

-- or none
pub judged_done : {S : Type 0} (old new : LineLoop S) (s : Status) (text : List ℕ) → s ≡ status.Done
    → leaves old.matching s new.report.used (length text) ≡ false → new.line ≡ text → IsLineLoop old new (counted_on old.read) None
    → Judged old new s text (Ok true)
judged_done {S} old new s text is left line loop =
    subst (λ (x : Status). Judged old new x text (Ok true)) (sym is) (subst (λ v. DoneBy old new v text (Ok true))
    (sym (subst (λ (x : Status). leaves old.matching x new.report.used (length text) ≡ false) is left)) (refl, line, loop))

pub judged_default : {S : Type 0} (old new : LineLoop S) (s : Status) (text : List ℕ) (fault : LineFault) → (s ≡ status.Done → ⊥)
    → (s ≡ status.NoMemory → ⊥) → Misses old new text (why.Failed (outcome_of new.report)) (Err fault) → Judged old new s text (Err fault)
judged_default old new status.Done text fault p q h = absurd (p refl)
judged_default old new status.NoMemory text fault p q h = absurd (q refl)
judged_default old new status.InputFailure text fault p q h = h
judged_default old new status.MatchingFailure text fault p q h = h
judged_default old new status.OutOfRange text fault p q h = h
judged_default old new status.TooLong text fault p q h = h

-- ---- the next line

-- what is kept of a loop while a line is read and scanned
pub record IsKept {S : Type 0} (old mid : LineLoop S) : Type 0 where
  pub format : mid.format ≡ old.format
  pub limit : mid.limit ≡ old.limit
  pub matching : mid.matching ≡ old.matching
  pub read : mid.read ≡ old.read

loop_from : {S : Type 0} (old mid new : LineLoop S) (over : Option (Option LineStop)) (n k : ℕ) → IsKept old mid → n ≡ k
    → IsLineLoop mid new n over → IsLineLoop old new k over
loop_from old mid new over n k kept e h = record {
  format = h.format ∙ kept.format;
  limit = h.limit ∙ kept.limit;
  read_are = h.read_are ∙ e;
  over_is = h.over_is;
}

misses_from : {S : Type 0} (old mid new : LineLoop S) (text : List ℕ) (why' : LineWhy) (result : Result Bool LineFault) → IsKept old mid
    → Misses mid new text why' result → Misses old new text why' result
misses_from old mid new text why' (Ok b) kept h = h
misses_from old mid new text why' (Err fault) kept h = (
  record { number_is = h.0.number_is ∙ ap counted_on kept.read; text_is = h.0.text_is; why_is = h.0.why_is },
  loop_from old mid new None (counted_on mid.read) (counted_on old.read) kept (ap counted_on kept.read) h.1,
)

stops_from : {S : Type 0} (old mid new : LineLoop S) (why' : LineWhy) (result : Result Bool LineFault) → IsKept old mid
    → Stops mid new why' result → Stops old new why' result
stops_from {S} old mid new why' (Ok b) kept h = h
stops_from {S} old mid new why' (Err fault) kept h = (
  record { number_is = h.0.number_is ∙ ap counted_on kept.read; text_is = h.0.text_is; why_is = h.0.why_is },
  subst (λ n. IsLineLoop old new old.read (Some (Some (record { number = counted_on n; why = why' })))) kept.read
      (loop_from old mid new (Some (Some (record { number = counted_on mid.read; why = why' }))) mid.read old.read kept kept.read h.1),
)

done_from : {S : Type 0} (old mid new : LineLoop S) (left : Bool) (text : List ℕ) (result : Result Bool LineFault) → IsKept old mid
    → DoneBy mid new left text result → DoneBy old new left text result
done_from old mid new true text result kept h = misses_from old mid new text (why.LeftOver new.report.used) result kept h
done_from old mid new false text result kept h =
    (h.0, h.1, loop_from old mid new None (counted_on mid.read) (counted_on old.read) kept (ap counted_on kept.read) h.2)

pub judged_from : {S : Type 0} (old mid new : LineLoop S) (s : Status) (text : List ℕ) (result : Result Bool LineFault) → IsKept old mid
    → Judged mid new s text result → Judged old new s text result
judged_from {S} old mid new status.Done text result kept h =
    subst (λ (w : Match). DoneBy old new (leaves w status.Done new.report.used (length text)) text result) kept.matching
    (done_from old mid new (leaves mid.matching status.Done new.report.used (length text)) text result kept h)
judged_from old mid new status.NoMemory text result kept h = stops_from old mid new why.NoMemory result kept h
judged_from old mid new status.InputFailure text result kept h = misses_from old mid new text _ result kept h
judged_from old mid new status.MatchingFailure text result kept h = misses_from old mid new text _ result kept h
judged_from old mid new status.OutOfRange text result kept h = misses_from old mid new text _ result kept h
judged_from old mid new status.TooLong text result kept h = misses_from old mid new text _ result kept h

-- a line was read, and judged in a loop that holds it
pub comes_of_line : {S : Type 0} (old mid new : LineLoop S) (result : Result Bool LineFault) → IsKept old mid → IsScanned mid new mid.line
    → Judged mid new new.report.status mid.line result → Comes old new reads.Line mid.line result
comes_of_line {S} old mid new result kept scanned judged = (
  record {
    told = subst (λ (ds : List Directive). RunTold ds old.limit mid.line End new.report) kept.format
        (subst (λ (m : ℕ). RunTold mid.format m mid.line End new.report) kept.limit scanned.told);
    bounded = subst (λ (ds : List Directive). IsSome (width_sum ds) → RunWithin ds old.limit mid.line End new.report) kept.format
        (subst (λ (m : ℕ). IsSome (width_sum mid.format) → RunWithin mid.format m mid.line End new.report) kept.limit scanned.bounded);
  },
  judged_from old mid new new.report.status mid.line result kept judged,
)

-- of a loop that is known by another name
pub next_by : {S : Type 0} (to_come : S → Option (List ℕ)) (count failures : S → ℕ) (N : ℕ) (was old new : LineLoop S) (ahead : Ahead S)
    (text : List ℕ) (read : LineRead) (result : Result Bool LineFault) → was ≡ old → new.ahead ≡ ahead
    → new.matching ≡ was.matching → Reads to_come was.ahead ahead was.limit text read → UsesLine to_come count N was.ahead ahead
    was.limit text read
    → failures ahead.source ≡ (if is_failed read then counted_on (failures was.ahead.source) else failures was.ahead.source)
    → (read ≡ NoRoom → Outgrows to_come was.ahead was.limit was.room) → (result ≡ Ok true → was.room ≤ new.room)
    → (result ≡ Ok true → length new.line ≤ new.room)
    → (was.over ≡ None → Comes was new read text result) → old.over ≡ None → IsNextLine to_come count failures N old new result
next_by {S} to_come count failures N was old new ahead text read result same is matching reading waited failed refused kept roomy comes
    open' =
    subst (λ (l : LineLoop S). IsNextLine to_come count failures N l new result) same (record {
      read = read;
      text = text;
      reading = subst (λ (a : Ahead S). Reads to_come was.ahead a was.limit text read) (sym is) reading;
      waited = subst (λ (a : Ahead S). UsesLine to_come count N was.ahead a was.limit text read) (sym is) waited;
      failed = ap (λ (a : Ahead S). failures a.source) is ∙ failed;
      comes = comes (ap (λ (l : LineLoop S). l.over) same ∙ open');
      matching = matching;
      refused = refused;
      kept = kept;
      roomy = roomy;
    })

-- what is answered of the line of a loop that is known by another name, with the room that its invariant gives
pub line_answers : {S : Type 0} (was old : LineLoop S) (capacity : ℕ) (P : Type 0) → was ≡ old
    → unwrap_or (width_sum was.format) 0 ≤ capacity
    → (length was.line < was.room → IsSeenAtOnce was.format was.limit was.line capacity → P)
    → length old.line < old.room → IsSeenAtOnce old.format old.limit old.line (unwrap_or (width_sum old.format) 0) → P
line_answers {S} was old capacity P same le answers =
    subst (λ (l : LineLoop S). length l.line < l.room
    → IsSeenAtOnce l.format l.limit l.line (unwrap_or (width_sum l.format) 0) → P)
    same (λ short seen. answers short (seen_roomier was.format was.limit was.line (unwrap_or (width_sum was.format) 0) capacity le seen))
