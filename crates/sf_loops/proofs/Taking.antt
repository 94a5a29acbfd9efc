-- The run of a record that is held whole.
use Rattle.std.proofs.Common.{◌≡◌, ℕ, ◌<◌, ◌≤◌, inl, Bool, true, false, cond, List, [], ◌++◌, length, take, drop, Option, None, refl, sym}
use Rattle.std.proofs.Common.{ap, subst, ◌∙◌, arith}
use Rattle.std.proofs.lemmas.Bool.Decides.{nat_tests}
use Rattle.std.proofs.lemmas.List.{take-append-le}
use Rattle.std.specs.Prelude.{nat_eq, unwrap_or}
use Rattle.std.specs.Io.KnownBytes.{IsAtEnd}
use Rattle.sf_format.specs.declared.directive.Directive.{Directive}
use Rattle.sf_format.specs.Widths.{width_sum}
use Rattle.sf_run.specs.outcome.Ending.{Ending}
use Rattle.sf_run.specs.outcome.Ending.TheVariants.{End}
use Rattle.sf_run.specs.outcome.Status.TheVariants.{Done}
use Rattle.sf_run.specs.Limits.{RunWithin}
use Rattle.sf_run.specs.Quick.{IsDoneWithin}
use Rattle.sf_run.specs.Runs.{RunReport}
use Rattle.sf_run.specs.Stopping.{is_memory_status}
use Rattle.sf_read.specs.source.Ahead.{Ahead}
use Rattle.sf_read.specs.source.Counts.{counted_on, lines_after}
use Rattle.sf_read.specs.Scan.{is_fault}
use Rattle.sf_read.proofs.Holding.{held_made, held_scan}
use Rattle.sf_read.proofs.Reading.{known_parts}
use Rattle.sf_run.specs.outcome.Outcome.{Outcome}
use Rattle.sf_loops.specs.declared.turn.Turn.TheVariants.{Goes}
use Rattle.sf_loops.specs.Loops.{Loop}
use Rattle.sf_loops.specs.Runs.{IsNextRun}
use Rattle.sf_loops.specs.Turns.{turn_for}

some_used : (n : ℕ) → 0 < n → nat_eq n 0 ≡ false
some_used n h = grind (arith, nat_tests)

-- a run that is Done, met nothing and used some bytes is a record
pub goes_at_once : (optional : Bool) (o : Outcome) → o.status ≡ Done → o.met ≡ None → 0 < o.used
    → turn_for optional o o.status o.met ≡ Goes
goes_at_once optional o status met some =
    let used : nat_eq o.used 0 ≡ false = some_used o.used some in rw (status, met, used) refl

pub held_run : {S : Type 0} (to_come : S → Option (List ℕ)) (reads failures : S → ℕ) (N : ℕ) (ds : List Directive) (m : ℕ)
    (old new : Ahead S)
    (lines lines' : ℕ) (report : RunReport) → ((z : List ℕ) (ending : Ending) → RunWithin ds m (old.held ++ z) ending report)
    → report.status ≡ Done
    → report.met ≡ None → report.used ≤ length old.held → new.held ≡ drop report.used old.held → new.source ≡ old.source
    → new.at_end ≡ old.at_end
    → (new.at_end ≡ true → IsAtEnd (to_come new.source)) → lines' ≡ lines_after lines (take report.used old.held)
    → IsNextRun to_come reads failures N ds m old new lines lines' report
held_run to_come reads failures N ds m old new lines lines' report run done met fits held source at_end told counted = record {
  scan = λ t e. held_scan to_come ds m old new report run met fits held source at_end told t e;
  told = (old.held ++ [], End, inl (run [] End));
  bounded = λ _. ap is_memory_status done;
  failed = ap failures source ∙ ap (λ met. cond (is_fault met) (counted_on (failures old.source)) (failures old.source)) (sym met);
  end = λ e. absurd cc;
  count = let same : reads new.source ≡ reads old.source = ap reads source in omega (arith, same);
  waited = let own = held_made to_come reads N ds m old new report run met fits held source at_end in (own.bytes, own.used, own.reads_are);
  made = held_made to_come reads N ds m old new report run met fits held source at_end;
  lines_are = λ t e.
      let (z, coming, whole) = known_parts old.held (to_come old.source) t e in
      counted ∙ ap (lines_after lines) (sym (ap (take report.used) whole ∙ take-append-le report.used old.held z fits));
}

-- what is answered of a loop that is known by another name, with the room that its invariant gives
pub held_answers : {S : Type 0} (was old : Loop S) (capacity : ℕ) (P : Type 0) → was ≡ old
    → unwrap_or (width_sum was.format) 0 ≤ capacity
    → ((done : IsDoneWithin was.format was.limit was.ahead.held capacity) → 0 < done.report.used → P)
    → (done : IsDoneWithin old.format old.limit old.ahead.held (unwrap_or (width_sum old.format) 0)) → 0 < done.report.used → P
held_answers {S} was old capacity P same le answers =
    subst (λ (l : Loop S). (done : IsDoneWithin l.format l.limit l.ahead.held (unwrap_or (width_sum l.format) 0))
    → 0 < done.report.used → P)
    same (λ done some. answers (record {
      ending = done.ending;
      report = done.report;
      is = done.is;
      done = done.done;
      early = done.early;
      low = done.low;
      fits = let fits = done.fits in omega (arith, fits, le);
      whole = done.whole;
    }) some)
