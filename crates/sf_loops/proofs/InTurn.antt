-- The answers of a loop in turn.
use Rattle.std.proofs.Common.{◌≡◌, ℕ, Bool, true, false, List, [], ◌∷◌, length, drop, Option, Some, None, Result, Ok, Err, refl, sym, ap}
use Rattle.std.proofs.Common.{◌++◌, subst, ap₂, ◌∙◌, append-nil, arith, length-append}
use Rattle.std.specs.List.{concat}
use Rattle.std.specs.Io.KnownBytes.{Consumes}
use Rattle.std.proofs.KnownBytes.{Consumes-nil, Consumes-trans}
use Rattle.std.proofs.lemmas.List.Folds.{concat-append}
use Rattle.sf_base.specs.Data.{Datum}
use Rattle.sf_base.specs.declared.values.Kind.{Kind}
use Rattle.sf_format.specs.declared.directive.Directive.{Directive}
use Rattle.sf_format.specs.Proper.{has_optional}
use Rattle.sf_run.specs.outcome.Ending.{Ending}
use Rattle.sf_run.specs.outcome.Outcome.{Outcome}
use Rattle.sf_run.specs.outcome.Status.{Status}
use Rattle.sf_read.specs.field.Rows.{AreSlotsOf}
use Rattle.sf_run.specs.outcome.Ending.TheVariants.{End}
use Rattle.sf_read.specs.source.Ahead.{input_of}
use Rattle.sf_read.specs.Laws.{ScanMade}
use Rattle.sf_read.specs.Reads.{counted_by}
use Rattle.sf_read.specs.Scan.{MayFollow, is_fault}
use Rattle.sf_read.proofs.InTurn.{counted_more, first_run}
use Rattle.sf_loops.specs.declared.fault.RecordFault.{RecordFault}
use Rattle.sf_loops.specs.declared.turn.Turn.{Turn}
use Rattle.sf_loops.specs.declared.turn.Turn.TheVariants.{Goes, Cut, Ends, Stops}
use Rattle.sf_loops.specs.Laws.{AnswersAreRecords, AnswersInTurn, AreRecords, ReadsAreRecords, blocks_in_turn}
use Rattle.sf_loops.specs.Loops.{Advances, Loop, RowAnswers}
use Rattle.sf_loops.specs.Turns.{outcome_of, turn_for, turn_of}

-- a run after which the loop goes on met no fault
goes_on : (optional : Bool) (o : Outcome) (status : Status) (met : Option Ending)
    → turn_for optional o status met ≡ Goes → is_fault met ≡ false
goes_on optional o status met e = grind arith

-- the loop goes on only after such a run
goes_by : {S : Type 0} (old new : Loop S) (turn : Turn) (result : Result Bool RecordFault) → Advances old new turn result → new.over ≡ None
    → (turn ≡ Goes) × (new.format ≡ old.format) × (new.limit ≡ old.limit)
goes_by old new Goes result a e = (refl, a.1.format, a.1.limit)
goes_by old new Cut result a e = let never = sym e ∙ a.1.over_is in absurd cc
goes_by old new Ends result a e = let never = sym e ∙ a.1.over_is in absurd cc
goes_by old new (Stops why) result a e = let never = sym e ∙ a.1.over_is in absurd cc

-- a row is that of the last run
row_of : {S T : Type 0} (kinds : List Kind) (listed : T → List (Option Datum)) (advanced new : Loop S) (turn : Result Bool RecordFault)
    (row : T)
    → RowAnswers kinds listed advanced new turn (Ok (Some row)) → (new ≡ advanced)
    × AreSlotsOf (length kinds) (listed row) advanced.report.values
row_of kinds listed advanced new (Ok true) row a = a
row_of kinds listed advanced new (Ok false) row a = absurd a
row_of kinds listed advanced new (Err fault) row a = absurd a

pub answers_are_records : {S T : Type 0} (to_come : S → Option (List ℕ)) (reads failures : S → ℕ) (N : ℕ) (kinds : List Kind)
    (listed : T → List (Option Datum))
    → AnswersAreRecords to_come reads failures N kinds listed
answers_are_records {S} to_come reads failures N kinds listed old new [] is t e =
    (t, refl, ap (λ (l : Loop S). input_of to_come l.ahead) (sym is) ∙ e)
answers_are_records {S} to_come reads failures N kinds listed old new (row ∷ rows) (mid, next, open', more) t e =
    let own = row_of kinds listed next.advanced mid next.turn row next.answers in
    let after : Loop S = next.advanced in
    let goes = goes_by old after (turn_of old.format after.report) next.turn next.is.advances (ap (λ (l : Loop S). l.over) (sym own.0)
    ∙ open') in
    let fine : is_fault after.report.met ≡ false = goes_on (has_optional old.format) (outcome_of after.report) after.report.status
    after.report.met goes.0 in
    let scan = next.is.run.scan t e in
    let rest : input_of to_come mid.ahead ≡ Some (drop after.report.used t) =
    ap (λ (l : Loop S). input_of to_come l.ahead) own.0 ∙ scan.rest in
    let (left, records, last) = answers_are_records to_come reads failures N kinds listed mid new rows more
    (drop after.report.used t) rest in
    let format : mid.format ≡ old.format = ap (λ (l : Loop S). l.format) own.0 ∙ goes.1 in
    let limit : mid.limit ≡ old.limit = ap (λ (l : Loop S). l.limit) own.0 ∙ goes.2 in
    let here : AreRecords kinds listed old.format old.limit (drop after.report.used t) rows left =
    subst (λ (ds : List Directive). AreRecords kinds listed ds old.limit (drop after.report.used t) rows left) format
    (subst (λ m. AreRecords kinds listed mid.format m (drop after.report.used t) rows left) limit records) in
    (left, (after.report, scan.whole fine, goes.0, own.1, here), last)

-- ---- whatever the source says of itself

module _ {S T : Type 0} (to_come : S → Option (List ℕ)) (reads failures : S → ℕ) (N : ℕ) (kinds : List Kind)
    (listed : T → List (Option Datum)) where
  -- after an end that was told nothing is read
  quiet : (old : Loop S) (rows : List T) (new : Loop S) (answers : AnswersInTurn to_come reads failures N kinds listed old rows new)
      → old.ahead.at_end ≡ true
      → (blocks_in_turn to_come reads failures N kinds listed old rows new answers ≡ []) × (new.ahead.at_end ≡ true)
  quiet old [] new is e = (refl, ap (λ (l : Loop S). l.ahead.at_end) (sym is) ∙ e)
  quiet old (row ∷ rows) new (mid, next, open', more) e =
      let own = row_of kinds listed next.advanced mid next.turn row next.answers in
      let made = next.is.run.made in
      let later = quiet mid rows new more (ap (λ (l : Loop S). l.ahead.at_end) own.0 ∙ made.stays e) in
      (ap₂ (λ (a b : List (List ℕ)). a ++ b) (made.reads_are.at_end e) later.0, later.1)

  pub reads_are_records : ReadsAreRecords to_come reads failures N kinds listed
  reads_are_records old new [] is = record {
    count = ap (λ (l : Loop S). reads l.ahead.source) (sym is);
    taken = subst (λ (l : Loop S). Consumes (to_come old.ahead.source) (to_come l.ahead.source) []) is
        (Consumes-nil (to_come old.ahead.source));
    records = λ z follows. ap (λ (x : List ℕ). x ++ z) (append-nil old.ahead.held ∙ ap (λ (l : Loop S). l.ahead.held) is);
  }
  reads_are_records old new (row ∷ rows) (mid, next, open', more) =
      let own = row_of kinds listed next.advanced mid next.turn row next.answers in
      let after : Loop S = next.advanced in
      let goes = goes_by old after (turn_of old.format after.report) next.turn next.is.advances (ap (λ (l : Loop S). l.over) (sym own.0)
      ∙ open') in
      let fine : is_fault after.report.met ≡ false = goes_on (has_optional old.format) (outcome_of after.report) after.report.status
      after.report.met goes.0 in
      let made = next.is.run.made in
      let rest = reads_are_records mid new rows more in
      let here : List (List ℕ) = made.reads_are.blocks in
      let later : List (List ℕ) = blocks_in_turn to_come reads failures N kinds listed mid rows new more in
      let both : concat (here ++ later) ≡ concat here ++ concat later = concat-append here later in
      let format : mid.format ≡ old.format = ap (λ (l : Loop S). l.format) own.0 ∙ goes.1 in
      let limit : mid.limit ≡ old.limit = ap (λ (l : Loop S). l.limit) own.0 ∙ goes.2 in
      record {
        count = rest.count ∙ ap (counted_by (length later)) (ap (λ (l : Loop S). reads l.ahead.source) own.0 ∙ made.reads_are.count)
            ∙ counted_more (length here) (length later) (length (here ++ later)) (reads old.ahead.source)
            (omega (arith, length-append here later));
        taken = subst (Consumes (to_come old.ahead.source) (to_come new.ahead.source)) (sym both)
            (Consumes-trans (to_come old.ahead.source) (to_come mid.ahead.source) (to_come new.ahead.source) (concat here) (concat later)
            (subst (λ (l : Loop S). Consumes (to_come old.ahead.source) (to_come l.ahead.source) (concat here)) (sym own.0)
            made.reads_are.taken) rest.taken);
        records = λ z follows.
            let ends : MayFollow after.ahead (concat later ++ z) End = λ e.
            let quiet_on = quiet mid rows new more (ap (λ (l : Loop S). l.ahead.at_end) own.0 ∙ e) in
            (ap₂ (λ (a b : List ℕ). a ++ b) (ap concat quiet_on.0) (follows quiet_on.1).0, refl) in
            let s : ScanMade = record { directives = old.format; limit = old.limit; report = after.report } in
            let one = first_run to_come reads N old.ahead after.ahead s made (concat later) z ends in
            let t : List ℕ = old.ahead.held ++ (concat here ++ concat later) ++ z in
            let left : drop after.report.used t ≡ mid.ahead.held ++ concat later ++ z =
            one.1 ∙ ap (λ (l : Loop S). l.ahead.held ++ concat later ++ z) (sym own.0) in
            let ours : AreRecords kinds listed old.format old.limit (mid.ahead.held ++ concat later ++ z) rows (new.ahead.held ++ z) =
            subst (λ (ds : List Directive). AreRecords kinds listed ds old.limit (mid.ahead.held ++ concat later ++ z) rows
            (new.ahead.held ++ z)) format
            (subst (λ (m : ℕ). AreRecords kinds listed mid.format m (mid.ahead.held ++ concat later ++ z) rows (new.ahead.held ++ z)) limit
            (rest.records z follows)) in
            let here_first : AreRecords kinds listed old.format old.limit t (row ∷ rows) (new.ahead.held ++ z) = (
              after.report,
              one.0.whole fine,
              goes.0,
              own.1,
              subst (λ (x : List ℕ). AreRecords kinds listed old.format old.limit x rows (new.ahead.held ++ z)) (sym left) ours,
            ) in
            subst (λ (x : List ℕ). AreRecords kinds listed old.format old.limit (old.ahead.held ++ x ++ z) (row ∷ rows)
            (new.ahead.held ++ z)) (sym both) here_first;
      }
