-- The answers of a loop over lines in turn.
use Rattle.std.proofs.Common.{◌≡◌, ◌≤◌, ℕ, Bool, true, false, List, [], ◌∷◌, ◌++◌, length, Option, Some, None, Result, Ok, Err}
use Rattle.std.proofs.Common.{refl, sym, ap, subst, ◌∙◌, append_assoc, append-nil}
use Rattle.sf_base.specs.Data.{Datum}
use Rattle.sf_base.specs.declared.values.Kind.{Kind}
use Rattle.sf_format.specs.declared.directive.Directive.{Directive}
use Rattle.sf_run.specs.outcome.Ending.TheVariants.{End}
use Rattle.sf_run.specs.outcome.Status.{Status}
use Rattle.sf_run.specs.outcome.Status.TheVariants as status
use Rattle.sf_run.specs.Limits.{RunTold}
use Rattle.sf_read.specs.source.Counts.{counted_on}
use Rattle.sf_read.specs.declared.line.line.LineRead.{LineRead}
use Rattle.sf_read.specs.declared.line.line.LineRead.TheVariants as reads
use Rattle.sf_read.specs.line.Cut.{lines_of}
use Rattle.sf_read.specs.line.Reading.{Reads, Took}
use Rattle.sf_read.proofs.LineLemmas.Lined.{Lined, at_end, begins, took}
use Rattle.sf_loops.specs.declared.line_fault.LineFault.{LineFault}
use Rattle.sf_loops.specs.declared.line_fault.LineWhy.{LineWhy}
use Rattle.sf_loops.specs.declared.line_fault.LineWhy.TheVariants as why
use Rattle.sf_read.specs.Matches.{leaves}
use Rattle.sf_loops.specs.Lines.{Comes, DoneBy, IsLineLoop, IsNextLine, IsNextLineRow, IsScanned, Judged, LineLoop, LineRowAnswers, Misses}
use Rattle.sf_loops.specs.Lines.{Stops}
use Rattle.sf_loops.specs.LineLaws.{AnswersAreLines, AreAnswersOf, IsAnswerOf, IsMissBy, LineAnswer, LinesInTurn, NoneIsTheEnd, answered}
use Rattle.sf_loops.specs.LineLaws.{is_miss}
use Rattle.sf_loops.specs.Turns.{outcome_of}

-- ---- a line that has a report

-- the run over it is Done
pub record IsReported {S : Type 0} (to_come : S → Option (List ℕ)) (old new : LineLoop S) (text : List ℕ) : Type 0 where
  pub taken : Took to_come old.ahead new.ahead text
  pub short : length text ≤ old.limit
  pub scanned : RunTold old.format old.limit text End new.report
  pub done : new.report.status ≡ status.Done
  pub whole : leaves old.matching status.Done new.report.used (length text) ≡ false
  pub goes : IsLineLoop old new (counted_on old.read) None

done_true : {S : Type 0} (old new : LineLoop S) (left : Bool) (text : List ℕ) → DoneBy old new left text (Ok true)
    → (left ≡ false) × IsLineLoop old new (counted_on old.read) None
done_true old new true text h = absurd h
done_true old new false text h = (refl, h.2)

judged_true : {S : Type 0} (old new : LineLoop S) (s : Status) (text : List ℕ) → Judged old new s text (Ok true)
    → (s ≡ status.Done) × (leaves old.matching status.Done new.report.used (length text) ≡ false)
    × IsLineLoop old new (counted_on old.read) None
judged_true old new status.Done text h =
    let d = done_true old new (leaves old.matching status.Done new.report.used (length text)) text h in (refl, d.0, d.1)
judged_true old new status.NoMemory text h = absurd h
judged_true old new status.InputFailure text h = absurd h
judged_true old new status.MatchingFailure text h = absurd h
judged_true old new status.OutOfRange text h = absurd h
judged_true old new status.TooLong text h = absurd h

pub comes_true : {S : Type 0} (to_come : S → Option (List ℕ)) (old new : LineLoop S) (read : LineRead) (text : List ℕ)
    → Reads to_come old.ahead new.ahead old.limit text read
    → Comes old new read text (Ok true) → IsReported to_come old new text
comes_true to_come old new reads.Line text r h = let j = judged_true old new new.report.status text h.1 in record {
  taken = r.0;
  short = r.1;
  scanned = h.0.told;
  done = j.0;
  whole = j.1;
  goes = j.2;
}
comes_true to_come old new reads.TooLong text r h = absurd h
comes_true to_come old new reads.End text r h = let never = h.0 in absurd cc
comes_true to_come old new reads.Fault text r h = absurd h
comes_true to_come old new reads.Endless text r h = absurd h
comes_true to_come old new reads.NoMemory text r h = absurd h

-- ---- a line that fails

-- it was taken, its fault says why, and the loop goes on
record IsMissed {S : Type 0} (to_come : S → Option (List ℕ)) (old new : LineLoop S) (fault : LineFault) : Type 0 where
  line : List ℕ
  taken : Took to_come old.ahead new.ahead line
  number_is : fault.number ≡ counted_on old.read
  missed : IsMissBy old.format old.limit old.matching line fault.text.items fault.why
  goes : IsLineLoop old new (counted_on old.read) None

stopped : {S : Type 0} (old new : LineLoop S) (why' : LineWhy) (fault : LineFault) → Stops old new why' (Err fault) → new.over ≡ None → ⊥
stopped old new why' fault h e = let never = sym e ∙ h.1.over_is in cc

missed_by : {S : Type 0} (to_come : S → Option (List ℕ)) (old new : LineLoop S) (text : List ℕ) (fault : LineFault)
    → Took to_come old.ahead new.ahead text → length text ≤ old.limit
    → IsScanned old new text → is_miss new.report.status ≡ true
    → Misses old new text (why.Failed (outcome_of new.report)) (Err fault) → IsMissed to_come old new fault
missed_by to_come old new text fault taken short scanned is h = record {
  line = text;
  taken = taken;
  number_is = h.0.number_is;
  missed = subst (IsMissBy old.format old.limit old.matching text fault.text.items) (sym h.0.why_is)
      (short, h.0.text_is, (new.report, scanned.told, is, refl));
  goes = h.1;
}

done_err : {S : Type 0} (to_come : S → Option (List ℕ)) (old new : LineLoop S) (left : Bool) (text : List ℕ) (fault : LineFault)
    → leaves old.matching status.Done new.report.used (length text) ≡ left
    → Took to_come old.ahead new.ahead text → length text ≤ old.limit
    → IsScanned old new text → new.report.status ≡ status.Done → DoneBy old new left text (Err fault) → IsMissed to_come old new fault
done_err to_come old new true text fault left taken short scanned is h = record {
  line = text;
  taken = taken;
  number_is = h.0.number_is;
  missed = subst (IsMissBy old.format old.limit old.matching text fault.text.items) (sym h.0.why_is)
      (short, h.0.text_is, (new.report, scanned.told, is, left, refl));
  goes = h.1;
}
done_err to_come old new false text fault left taken short scanned is h = let never = h.0 in absurd cc

judged_err : {S : Type 0} (to_come : S → Option (List ℕ)) (old new : LineLoop S) (s : Status) (text : List ℕ) (fault : LineFault)
    → Took to_come old.ahead new.ahead text → length text ≤ old.limit
    → IsScanned old new text → new.report.status ≡ s → Judged old new s text (Err fault) → new.over ≡ None → IsMissed to_come old new fault
judged_err to_come old new status.Done text fault t l c is h e =
    done_err to_come old new (leaves old.matching status.Done new.report.used (length text)) text fault refl t l c is h
judged_err to_come old new status.NoMemory text fault t l c is h e = absurd (stopped old new why.NoMemory fault h e)
judged_err to_come old new status.InputFailure text fault t l c is h e = missed_by to_come old new text fault t l c (ap is_miss is) h
judged_err to_come old new status.MatchingFailure text fault t l c is h e = missed_by to_come old new text fault t l c (ap is_miss is) h
judged_err to_come old new status.OutOfRange text fault t l c is h e = missed_by to_come old new text fault t l c (ap is_miss is) h
judged_err to_come old new status.TooLong text fault t l c is h e = missed_by to_come old new text fault t l c (ap is_miss is) h

comes_err : {S : Type 0} (to_come : S → Option (List ℕ)) (old new : LineLoop S) (read : LineRead) (text : List ℕ) (fault : LineFault)
    → Reads to_come old.ahead new.ahead old.limit text read → Comes old new read text (Err fault) → new.over ≡ None
    → IsMissed to_come old new fault
comes_err to_come old new reads.Line text fault r h e = judged_err to_come old new new.report.status text fault r.0 r.1 h.0 refl h.1 e
comes_err to_come old new reads.TooLong text fault (long, taken, more, is) h e = record {
  line = long;
  taken = taken;
  number_is = h.0.number_is;
  missed = subst (IsMissBy old.format old.limit old.matching long fault.text.items) (sym h.0.why_is) (more, h.0.text_is ∙ is);
  goes = h.1;
}
comes_err to_come old new reads.End text fault r h e = let never = h.0 in absurd cc
comes_err to_come old new reads.Fault text fault r h e = absurd (stopped old new why.Read fault h e)
comes_err to_come old new reads.Endless text fault r h e = absurd (stopped old new why.Endless fault h e)
comes_err to_come old new reads.NoMemory text fault r h e = absurd (stopped old new why.NoMemory fault h e)

-- ---- an answer

-- the next line has this answer, and the loop goes on
record IsAnswered {S T : Type 0} (to_come : S → Option (List ℕ)) (kinds : List Kind) (listed : T → List (Option Datum))
    (old new : LineLoop S)
    (answer : LineAnswer T) : Type 0 where
  line : List ℕ
  taken : Took to_come old.ahead new.ahead line
  is : IsAnswerOf kinds listed old.format old.limit old.matching (counted_on old.read) line answer
  format : new.format ≡ old.format
  limit : new.limit ≡ old.limit
  matching : new.matching ≡ old.matching
  read : new.read ≡ counted_on old.read

row_answered : {S T : Type 0} (to_come : S → Option (List ℕ)) (failures : S → ℕ) (count : S → ℕ) (N : ℕ) (kinds : List Kind)
    (listed : T → List (Option Datum)) (old advanced new : LineLoop S) (turn : Result Bool LineFault) (row : T)
    → IsNextLine to_come count failures N old advanced turn
    → LineRowAnswers kinds listed advanced new turn (Ok (Some row)) → IsAnswered to_come kinds listed old new (Ok row)
row_answered {S} {T} to_come failures count N kinds listed old advanced new (Ok true) row next (same, row_is) =
    let all = comes_true to_come old advanced next.read next.text next.reading next.comes in record {
      line = next.text;
      taken = subst (λ (l : LineLoop S). Took to_come old.ahead l.ahead next.text) (sym same) all.taken;
      is = (all.short, (advanced.report, all.scanned, all.done, all.whole, row_is));
      format = ap (λ (l : LineLoop S). l.format) same ∙ all.goes.format;
      limit = ap (λ (l : LineLoop S). l.limit) same ∙ all.goes.limit;
      matching = ap (λ (l : LineLoop S). l.matching) same ∙ next.matching;
      read = ap (λ (l : LineLoop S). l.read) same ∙ all.goes.read_are;
    }
row_answered to_come failures count N kinds listed old advanced new (Ok false) row next h = absurd h
row_answered to_come failures count N kinds listed old advanced new (Err fault) row next h = absurd h

fault_answered : {S T : Type 0} (to_come : S → Option (List ℕ)) (failures : S → ℕ) (count : S → ℕ) (N : ℕ) (kinds : List Kind)
    (listed : T → List (Option Datum)) (old advanced new : LineLoop S) (turn : Result Bool LineFault) (fault : LineFault)
    → IsNextLine to_come count failures N old advanced turn
    → LineRowAnswers kinds listed advanced new turn (Err fault) → new.over ≡ None → IsAnswered to_come kinds listed old new (Err fault)
fault_answered {S} {T} to_come failures count N kinds listed old advanced new (Ok true) fault next (told, refused) e =
    let never = sym e ∙ ap (λ (l : LineLoop S). l.over) refused in absurd cc
fault_answered to_come failures count N kinds listed old advanced new (Ok false) fault next h e = absurd h
fault_answered {S} {T} to_come failures count N kinds listed old advanced new (Err own) fault next (is, same) e =
    let all = comes_err to_come old advanced next.read next.text own next.reading next.comes
    (ap (λ (l : LineLoop S). l.over) (sym same) ∙ e) in record {
      line = all.line;
      taken = subst (λ (l : LineLoop S). Took to_come old.ahead l.ahead all.line) (sym same) all.taken;
      is = subst (λ (f : LineFault). IsAnswerOf kinds listed old.format old.limit old.matching (counted_on old.read) all.line
          (let answer : LineAnswer T = Err f in answer)) (sym is) (all.number_is, all.missed);
      format = ap (λ (l : LineLoop S). l.format) same ∙ all.goes.format;
      limit = ap (λ (l : LineLoop S). l.limit) same ∙ all.goes.limit;
      matching = ap (λ (l : LineLoop S). l.matching) same ∙ next.matching;
      read = ap (λ (l : LineLoop S). l.read) same ∙ all.goes.read_are;
    }

one : {S T : Type 0} (to_come : S → Option (List ℕ)) (count failures : S → ℕ) (N : ℕ) (kinds : List Kind) (listed : T → List (Option Datum))
    (old new : LineLoop S) (answer : LineAnswer T) → IsNextLineRow to_come count failures N kinds listed old new (answered answer)
    → new.over ≡ None → IsAnswered to_come kinds listed old new answer
one to_come count failures N kinds listed old new (Ok row) next e =
    row_answered to_come failures count N kinds listed old next.advanced new next.turn row next.is next.answers
one to_come count failures N kinds listed old new (Err fault) next e =
    fault_answered to_come failures count N kinds listed old next.advanced new next.turn fault next.is next.answers e

-- ---- answers in turn

-- the answers are those of these lines
record Told {S T : Type 0} (to_come : S → Option (List ℕ)) (kinds : List Kind) (listed : T → List (Option Datum)) (t : List ℕ)
    (old new : LineLoop S)
    (front : List (List ℕ)) (answers : List (LineAnswer T)) : Type 0 where
  lines : List (List ℕ)
  lined : Lined to_come t new.ahead (front ++ lines)
  are : AreAnswersOf kinds listed old.format old.limit old.matching old.read lines answers

in_turn : {S T : Type 0} (to_come : S → Option (List ℕ)) (count failures : S → ℕ) (N : ℕ) (kinds : List Kind)
    (listed : T → List (Option Datum))
    (t : List ℕ) (old new : LineLoop S) (front : List (List ℕ)) (answers : List (LineAnswer T))
    → Lined to_come t old.ahead front → LinesInTurn to_come count failures N kinds listed old answers new
    → Told to_come kinds listed t old new front answers
in_turn {S} to_come count failures N kinds listed t old new front [] l same = record {
  lines = [];
  lined = subst (λ (lines : List (List ℕ)). Lined to_come t new.ahead lines) (sym (append-nil front))
      (subst (λ (x : LineLoop S). Lined to_come t x.ahead front) same l);
  are = tt;
}
in_turn {S} to_come count failures N kinds listed t old new front (answer ∷ answers) l (mid, next, open', more) =
    let own = one to_come count failures N kinds listed old mid answer next open' in
    let rest = in_turn to_come count failures N kinds listed t mid new (front ++ own.line ∷ []) answers
    (took l mid.ahead own.line own.taken) more in record {
      lines = own.line ∷ rest.lines;
      lined = subst (λ (lines : List (List ℕ)). Lined to_come t new.ahead lines) (append_assoc front (own.line ∷ []) rest.lines)
          rest.lined;
      are = (
        own.is,
        subst (λ (ds : List Directive). AreAnswersOf kinds listed ds old.limit old.matching (counted_on old.read) rest.lines answers)
            own.format
            (subst (λ m. AreAnswersOf kinds listed mid.format m old.matching (counted_on old.read) rest.lines answers) own.limit
            (subst (λ w. AreAnswersOf kinds listed mid.format mid.limit w (counted_on old.read) rest.lines answers) own.matching
            (subst (λ n. AreAnswersOf kinds listed mid.format mid.limit mid.matching n rest.lines answers) own.read rest.are))),
      );
    }

pub answers_are_lines : {S T : Type 0} (to_come : S → Option (List ℕ)) (count failures : S → ℕ) (N : ℕ) (kinds : List Kind)
    (listed : T → List (Option Datum))
    → AnswersAreLines to_come count failures N kinds listed
answers_are_lines to_come count failures N kinds listed old new answers turns t e =
    let all = in_turn to_come count failures N kinds listed t old new [] answers (begins to_come t old.ahead e) turns in
    (all.lines, all.lined.left, all.lined.whole, all.lined.input, all.are)

-- ---- the end

comes_false : {S : Type 0} (to_come : S → Option (List ℕ)) (t : List ℕ) (old new : LineLoop S) (read : LineRead) (text : List ℕ)
    (lines : List (List ℕ)) → Lined to_come t old.ahead lines
    → Reads to_come old.ahead new.ahead old.limit text read → Comes old new read text (Ok false) → lines_of t ≡ lines
comes_false to_come t old new reads.Line text lines l r h = absurd (none new.report.status h.1)
  where
    none_done : (left : Bool) → DoneBy old new left text (Ok false) → ⊥
    none_done true j = j
    none_done false j = let never = j.0 in cc

    none : (s : Status) → Judged old new s text (Ok false) → ⊥
    none status.Done j = none_done (leaves old.matching status.Done new.report.used (length text)) j
    none status.NoMemory j = j
    none status.InputFailure j = j
    none status.MatchingFailure j = j
    none status.OutOfRange j = j
    none status.TooLong j = j
comes_false to_come t old new reads.TooLong text lines l r h = absurd h
comes_false to_come t old new reads.End text lines l r h = (at_end l new.ahead r.0.bytes r.2).1
comes_false to_come t old new reads.Fault text lines l r h = absurd h
comes_false to_come t old new reads.Endless text lines l r h = absurd h
comes_false to_come t old new reads.NoMemory text lines l r h = absurd h

ended : {S T : Type 0} (to_come : S → Option (List ℕ)) (count failures : S → ℕ) (N : ℕ) (kinds : List Kind)
    (listed : T → List (Option Datum))
    (t : List ℕ) (old advanced new : LineLoop S) (turn : Result Bool LineFault) (lines : List (List ℕ)) → Lined to_come t old.ahead lines
    → IsNextLine to_come count failures N old advanced turn → LineRowAnswers kinds listed advanced new turn (Ok None) → lines_of t ≡ lines
ended to_come count failures N kinds listed t old advanced new (Ok true) lines l next h = absurd h
ended to_come count failures N kinds listed t old advanced new (Ok false) lines l next h =
    comes_false to_come t old advanced next.read next.text lines l next.reading next.comes
ended to_come count failures N kinds listed t old advanced new (Err fault) lines l next h = absurd h

pub none_is_the_end : {S T : Type 0} (to_come : S → Option (List ℕ)) (count failures : S → ℕ) (N : ℕ) (kinds : List Kind)
    (listed : T → List (Option Datum))
    → NoneIsTheEnd to_come count failures N kinds listed
none_is_the_end to_come count failures N kinds listed old mid new answers turns next t e =
    let all = in_turn to_come count failures N kinds listed t old mid [] answers (begins to_come t old.ahead e) turns in
    let is = ended to_come count failures N kinds listed t mid next.advanced new next.turn all.lines all.lined next.is next.answers in
    subst (λ (lines : List (List ℕ)). AreAnswersOf kinds listed old.format old.limit old.matching old.read lines answers) (sym is) all.are
