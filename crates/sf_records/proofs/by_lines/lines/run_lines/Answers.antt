use Rattle.std.proofs.Common.{◌≡◌, ◌<◌, ◌+◌, ◌∙◌, ℕ, List, cond, get_or, length, Option, Some, refl, sym, ap, arith}
use Rattle.std.specs.Prelude.{IsSome, is_some}
use Rattle.std.specs.List.{AllByRecursion}
use Rattle.sf_format.specs.declared.directive.Directive.{Directive}
use Rattle.sf_format.specs.Proper.{AreInOrder, AreProper}
use Rattle.sf_forms.specs.declared.form.OutputForm.{OutputForm}
use Rattle.sf_forms.specs.makers.Forms.{IsBare}
use Rattle.sf_forms.specs.makers.Works.{Work}
use Rattle.sf_records.specs.declared.by_lines.end.LineFault.{LineFault}
use Rattle.sf_records.specs.declared.by_lines.options.LinesOptions.{LinesOptions}
use Rattle.sf_run.proofs.Told as told
use Rattle.sf_print.specs.sink.Sinks.{counted_on}
use Rattle.sf_records.specs.by_lines.Turns.{AreScanned, work_of}
use Rattle.sf_run.specs.Runs.{RunReport}
use Rattle.sf_records.proofs.LinewiseLemmas.InPlace.{IsFirst, goes_further}
use Rattle.sf_records.proofs.LinewiseLemmas.Looping.{counted_within, moves_on, no_store, quiet_on, starts, stops_at, too_many}
use Rattle.sf_records.proofs.LinewiseLemmas.Telling.{as_it_was, stays_then}
use Rattle.sf_records.proofs.by_lines.lines.run_lines.Goals as goal

-- the formats are accepted
scanned : {ignored formats : List (List Directive)} {options : LinesOptions} {makes : ℕ → List Directive → Work}
    {telling : ℕ → List ℕ → LineFault → List ℕ} → AllByRecursion AreProper ignored → AllByRecursion AreProper formats
    → 0 < length formats → AreScanned (work_of options ignored formats makes telling)
scanned ignored proper some = record { ignored = ignored; proper = proper; some = some }

-- the first format is scanned alone, where a form is asked for
first_is : {options : LinesOptions} {ignored formats : List (List Directive)} {makes : ℕ → List Directive → Work}
    {telling : ℕ → List ℕ → LineFault → List ℕ} {ds : List Directive} (asked : Option OutputForm) (form : OutputForm)
    → asked ≡ Some form → 0 < length formats → ds ≡ get_or formats 0 ds → (IsSome asked → length ignored ≡ 0)
    → ((f : OutputForm) → asked ≡ Some f → (number : ℕ) (report : RunReport) → IsBare f (makes number ds) ds report)
    → ((f : OutputForm) → asked ≡ Some f → AreInOrder ds) → IsFirst form (work_of options ignored formats makes telling) ds
first_is asked form is some first none bare order = record {
  ignored = none (ap is_some is);
  some = some;
  first = first;
  order = order form is;
  bare = bare form is;
}

pub lines-init : goal.lines-init
lines-init g c = record {
  going = λ telling t said e. starts _ g.S.Source.to_come t c.args.from.now (g.K.Sink.contents c.args.to.now)
      (g.E.Teller.failed c.args.teller.now) (g.E.Teller.told c.args.teller.now) e;
  text = refl;
  teller = as_it_was c.args.teller.now;
  written = omega arith;
  failed = omega arith;
  source = refl;
  sink = refl;
  unread = λ at_end. refl;
  ended = λ at_end. at_end;
}

pub returns-in_default-clause-tells : goal.returns-in_default-clause-tells
returns-in_default-clause-tells g c telling t said e =
    no_store told.one_report
    (work_of c.args.options c.args.formats.now.ignored.now c.args.formats.now.tried.now (g.M.Maker.work c.args.maker.now) telling)
    (scanned c.store_for.ensures.ignored c.store_for.ensures.proper c.requires.some) g.S.Source.to_come t c.args.from.now
    (g.K.Sink.contents c.args.to.now) (g.E.Teller.failed c.args.teller.now) (g.E.Teller.told c.args.teller.now) e
    (g.S.Source.failures c.args.from.now.source) c.ended.result c.ended.ensures

pub returns-in_default-clause-loops : goal.returns-in_default-clause-loops
returns-in_default-clause-loops g c telling t said e = (returns-in_default-clause-tells g c telling t said e).0

pub lines-preserved : goal.lines-preserved
lines-preserved g c =
    let l = c.lines in
    let wrote = c.write_lines-passed.ensures.written in
    let formats = c.args.formats.now.tried.now in
    let fits = counted_within c.turn-judged.result (l.counts.written + c.write_lines-passed.result) l.counts.failed
    (l.number + c.write_lines-passed.result) (omega (arith, l.invariant.written)) (omega (arith, l.invariant.failed)) in
    let quiet = quiet_on c.args.options.keep_going (l.number + c.write_lines-passed.result + 1) c.turn-judged.result tt
    (sym c.next_step.ensures ∙ c.in-Ok-next_step.is) in
    record {
      going = λ telling t said e.
          let accepted = scanned c.store_for.ensures.ignored c.store_for.ensures.proper c.requires.some in
          rw (c.with-counts.ensures) (moves_on told.one_report accepted
          (goes_further told.one_report c.done_runs_stay.ensures accepted wrote.0 (get_or formats 0 c.index-formats-0.result) wrote.2
          (λ some. first_is c.form_of_lines-asked.result wrote.0 (wrote.1 some) c.requires.some
          (ap (get_or formats 0) c.index-formats-0.is) c.form_of_lines-asked.ensures.ignored
          c.form_of_lines-asked.ensures.form c.form_of_lines-asked.ensures.order)
          c.write_lines-passed.ensures.open c.write_lines-passed.ensures.skip
          (l.invariant.going telling t said e)) c.turn-judged.result
          (rw (← l.invariant.text) (c.turn-judged.ensures.turns telling (l.invariant.teller.same telling said))) tt
          (sym c.next_step.ensures ∙ c.in-Ok-next_step.is));
      text = c.turn-judged.ensures.same ∙ l.invariant.text;
      teller = stays_then _ _ _ l.invariant.teller c.turn-judged.ensures.stays;
      written = rw (c.with-counts.ensures) fits.0;
      failed = rw (c.with-counts.ensures) fits.1;
      source = c.turn-judged.ensures.source ∙ ap (λ b. cond b (counted_on (g.S.Source.failures c.write_lines-passed.new.from.source))
          (g.S.Source.failures c.write_lines-passed.new.from.source)) quiet.0 ∙ ap g.S.Source.failures wrote.2.source ∙ l.invariant.source;
      sink = c.turn-judged.ensures.sink ∙ ap (λ b. cond b (counted_on (g.K.Sink.failures c.write_lines-passed.new.to))
          (g.K.Sink.failures c.write_lines-passed.new.to)) quiet.1 ∙ c.write_lines-passed.ensures.failures ∙ l.invariant.sink;
      unread = λ at_end.
          c.turn-judged.ensures.no_read (wrote.2.at_end ∙ l.invariant.ended at_end) ∙ wrote.2.source ∙ l.invariant.unread at_end;
      ended = λ at_end. c.turn-judged.ensures.ended (wrote.2.at_end ∙ l.invariant.ended at_end);
    }

pub returns-in-Err-clause-tells : goal.returns-in-Err-clause-tells
returns-in-Err-clause-tells g c telling t said e =
    let l = c.lines in
    let wrote = c.write_lines-passed.ensures.written in
    let formats = c.args.formats.now.tried.now in
    let accepted = scanned c.store_for.ensures.ignored c.store_for.ensures.proper c.requires.some in
    stops_at told.one_report accepted
    (goes_further told.one_report c.done_runs_stay.ensures accepted wrote.0 (get_or formats 0 c.index-formats-0.result) wrote.2
    (λ some. first_is c.form_of_lines-asked.result wrote.0 (wrote.1 some) c.requires.some
    (ap (get_or formats 0) c.index-formats-0.is) c.form_of_lines-asked.ensures.ignored
    c.form_of_lines-asked.ensures.form c.form_of_lines-asked.ensures.order)
    c.write_lines-passed.ensures.open c.write_lines-passed.ensures.skip (l.invariant.going telling t said e)) c.turn-judged.result
    (rw (← l.invariant.text) (c.turn-judged.ensures.turns telling (l.invariant.teller.same telling said))) c.in-Err.fault
    (sym c.next_step.ensures ∙ c.in-Err.is)
    _ _ _ (ap g.S.Source.failures wrote.2.source ∙ l.invariant.source) c.turn-judged.ensures.source _
    (rw (c.with-counts.ensures) at c.ended-in-Err.ensures)

pub returns-in-Err-clause-loops : goal.returns-in-Err-clause-loops
returns-in-Err-clause-loops g c telling t said e = (returns-in-Err-clause-tells g c telling t said e).0

pub returns-then-before-clause-tells : goal.returns-then-before-clause-tells
returns-then-before-clause-tells g c telling t said e =
    let l = c.lines in
    let wrote = c.write_lines-passed.ensures.written in
    let formats = c.args.formats.now.tried.now in
    let accepted = scanned c.store_for.ensures.ignored c.store_for.ensures.proper c.requires.some in
    too_many told.one_report accepted
    (goes_further told.one_report c.done_runs_stay.ensures accepted wrote.0 (get_or formats 0 c.index-formats-0.result) wrote.2
    (λ some. first_is c.form_of_lines-asked.result wrote.0 (wrote.1 some) c.requires.some
    (ap (get_or formats 0) c.index-formats-0.is) c.form_of_lines-asked.ensures.ignored
    c.form_of_lines-asked.ensures.form c.form_of_lines-asked.ensures.order)
    c.write_lines-passed.ensures.open c.write_lines-passed.ensures.skip (l.invariant.going telling t said e))
    c.if-before.true _ _ (ap g.S.Source.failures wrote.2.source ∙ l.invariant.source) _
    c.ended-then-before.ensures

pub returns-then-before-clause-loops : goal.returns-then-before-clause-loops
returns-then-before-clause-loops g c telling t said e =
    (returns-then-before-clause-tells g c telling t said e).0
