use Rattle.std.proofs.Common.{◌≡◌, ◌≤◌, ℕ, Option, Some, None, false, cond, ap, sym, ◌∙◌, refl, arith, true≢false}
use Rattle.sf_run.specs.outcome.Ending.{Ending}
use Rattle.sf_run.specs.outcome.Status.{Status}
use Rattle.sf_run.specs.outcome.Status.TheVariants.{Done}
use Rattle.sf_run.specs.Stopping.{is_memory_status}
use Rattle.std.specs.Prelude.{unwrap_or}
use Rattle.sf_base.specs.stores.Kept.{Kept, nothing_kept}
use Rattle.sf_run.specs.Memory.{capacity_of}
use Rattle.sf_read.specs.source.Counts.{counted_on}
use Rattle.sf_read.specs.Scan.{is_fault}
use Rattle.sf_run.proofs.Told as told
use Rattle.sf_records.proofs.Further.{bare_lines, goes_further}
use Rattle.sf_records.proofs.Looping.{begins, same_ahead, scan_as, no_memory, too_many, next, ends_at}
use Rattle.sf_records.proofs.records.run_records.Goals as goal

-- a run that met nothing has not failed
quiet : {before after : ℕ} (met : Option Ending) → met ≡ None → after ≡ before → after ≡ cond (is_fault met) (counted_on before) before
quiet met none same = rw none same

-- nor was memory refused for a run that is Done
done_fine : (status : Status) → status ≡ Done → is_memory_status status ≡ false
done_fine status done = ap is_memory_status done

-- the room of the store, when it is made and later
fresh_roomy : (store : Kept) (made sum : ℕ) → store ≡ nothing_kept made → sum ≤ made → sum ≤ capacity_of store
fresh_roomy store made sum fresh enough = rw fresh (omega (arith, enough))

-- where there is no sum of widths, none is asked for
least_room : (given sum : Option ℕ) (made other : ℕ) → made ≡ unwrap_or given other → given ≡ sum → unwrap_or sum 0 ≤ made
least_room given (Some n) made other is same = let e = is ∙ ap (λ (g : Option ℕ). unwrap_or g other) same in omega (arith, e)
least_room given None made other is same = omega arith

enough_still : {k m n : ℕ} → k ≤ m → m ≤ n → k ≤ n
enough_still low high = omega (arith, low, high)

pub records-init : goal.records-init
records-init g c = record {
  going = λ t e. begins (g.M.Maker.work c.args.maker.now 1 c.args.format.now) g.S.Source.to_come c.args.format.now c.args.limit t
      c.args.from.now (g.K.Sink.contents c.args.to.now) (g.S.Source.failures c.args.from.now.source) e;
  same = refl;
  roomy = fresh_roomy _ _ _ c.in-Ok.ensures (least_room _ _ _ _ c.unwrap_or.ensures c.width_sum.ensures);
  unread = λ at_end. refl;
  ended = λ at_end. at_end;
  most = omega arith;
  sound = refl;
}

pub returns-in_default-clause-loops : goal.returns-in_default-clause-loops
returns-in_default-clause-loops g c t e =
    no_memory told.one_report (g.M.Maker.work c.args.maker.now 1 c.args.format.now) g.S.Source.to_come c.args.format.now
    c.destinations.ensures.proper
    c.args.limit t c.args.from.now (g.K.Sink.contents c.args.to.now) (g.S.Source.failures c.args.from.now.source) e
    c.ended_by.result c.ended_by.ensures

pub records-preserved-in-Ok-write_held : goal.records-preserved-in-Ok-write_held
records-preserved-in-Ok-write_held g c = record {
  going = λ t e.
      let written = c.write_records.ensures.written in
      let going = goes_further g.S.Source.failures told.one_report c.destinations.ensures.proper
      (λ some. bare_lines written.0 _ _ (c.form_in_place-asked.ensures.order written.0 (written.1 some))
      (c.form_in_place-asked.ensures.form written.0 (written.1 some) 1))
      c.write_records.ensures.told written.2 (c.records.invariant.going t e) in
      let judged = c.in-Ok-write_held.ensures.written in
      next told.one_report c.destinations.ensures.proper going c.new-report.result
      (scan_as c.new-report.ensures (c.in-Some.ensures.scan going.left going.input))
      (λ at_end. c.fscan_held.ensures.stays ∙ at_end)
      (quiet _ (ap (λ r. r.met) c.new-report.ensures ∙ c.in-Some.ensures.met) (ap g.S.Source.failures c.fscan_held.ensures.no_read))
      (λ _. done_fine _ (ap (λ r. r.status) c.new-report.ensures ∙ c.in-Some.ensures.done)) _
      (rw (← c.records.invariant.same) judged.0) (rw (← c.records.invariant.same) judged.1);
  same = c.write_held.ensures.same ∙ c.records.invariant.same;
  roomy = enough_still c.records.invariant.roomy c.fscan_held.ensures.room;
  unread = λ at_end. c.fscan_held.ensures.no_read ∙ c.write_records.ensures.written.2.source ∙ c.records.invariant.unread at_end;
  ended = λ at_end. c.fscan_held.ensures.stays ∙ c.write_records.ensures.written.2.at_end ∙ c.records.invariant.ended at_end;
  most = omega (arith, c.write_records.ensures.most, c.records.invariant.most, c.if-passed-eq-MOST_RECORDS.false);
  sound = c.in-Ok-write_held.ensures.failures ∙ c.write_records.ensures.failures ∙ c.records.invariant.sound;
}

pub returns-in-Err-clause-loops : goal.returns-in-Err-clause-loops
returns-in-Err-clause-loops g c t e =
    let written = c.write_records.ensures.written in
    let going = goes_further g.S.Source.failures told.one_report c.destinations.ensures.proper
    (λ some. bare_lines written.0 _ _ (c.form_in_place-asked.ensures.order written.0 (written.1 some))
    (c.form_in_place-asked.ensures.form written.0 (written.1 some) 1))
    c.write_records.ensures.told written.2 (c.records.invariant.going t e) in
    ends_at told.one_report c.destinations.ensures.proper going c.new-report.result
    (scan_as c.new-report.ensures (c.in-Some.ensures.scan going.left going.input)) (λ at_end. c.fscan_held.ensures.stays ∙ at_end)
    (quiet _ (ap (λ r. r.met) c.new-report.ensures ∙ c.in-Some.ensures.met) (ap g.S.Source.failures c.fscan_held.ensures.no_read))
    (λ _. done_fine _ (ap (λ r. r.status) c.new-report.ensures ∙ c.in-Some.ensures.done))
    (omega (arith, c.write_records.ensures.most, c.records.invariant.most, c.if-passed-eq-MOST_RECORDS.false))
    c.ended_by-in-Err.result _
    (rw (← c.records.invariant.same, c.ended_by-in-Err.ensures) c.in-Err.ensures.unwritten)

pub returns-in-Some-judge-clause-loops : goal.returns-in-Some-judge-clause-loops
returns-in-Some-judge-clause-loops g c t e =
    let written = c.write_records.ensures.written in
    let going = goes_further g.S.Source.failures told.one_report c.destinations.ensures.proper
    (λ some. bare_lines written.0 _ _ (c.form_in_place-asked.ensures.order written.0 (written.1 some))
    (c.form_in_place-asked.ensures.form written.0 (written.1 some) 1))
    c.write_records.ensures.told written.2 (c.records.invariant.going t e) in
    let judged = c.in-Some-judge.ensures.judged in
    ends_at told.one_report c.destinations.ensures.proper going c.new-report.result
    (scan_as c.new-report.ensures (c.in-Some.ensures.scan going.left going.input)) (λ at_end. c.fscan_held.ensures.stays ∙ at_end)
    (quiet _ (ap (λ r. r.met) c.new-report.ensures ∙ c.in-Some.ensures.met) (ap g.S.Source.failures c.fscan_held.ensures.no_read))
    (λ _. done_fine _ (ap (λ r. r.status) c.new-report.ensures ∙ c.in-Some.ensures.done))
    (omega (arith, c.write_records.ensures.most, c.records.invariant.most, c.if-passed-eq-MOST_RECORDS.false))
    c.in-Some-judge.end _
    (rw (← c.records.invariant.same) judged)

pub records-preserved-in-Some : goal.records-preserved-in-Some
records-preserved-in-Some g c = record {
  going = λ t e.
      let written = c.write_records.ensures.written in
      let going = goes_further g.S.Source.failures told.one_report c.destinations.ensures.proper
      (λ some. bare_lines written.0 _ _ (c.form_in_place-asked.ensures.order written.0 (written.1 some))
      (c.form_in_place-asked.ensures.form written.0 (written.1 some) 1))
      c.write_records.ensures.told written.2 (c.records.invariant.going t e) in
      let judged = c.in_default-judge.ensures.judged in
      next told.one_report c.destinations.ensures.proper going c.new-report.result
      (scan_as c.new-report.ensures (c.in-Some.ensures.scan going.left going.input))
      (λ at_end. c.fscan_held.ensures.stays ∙ at_end)
      (quiet _ (ap (λ r. r.met) c.new-report.ensures ∙ c.in-Some.ensures.met) (ap g.S.Source.failures c.fscan_held.ensures.no_read))
      (λ _. done_fine _ (ap (λ r. r.status) c.new-report.ensures ∙ c.in-Some.ensures.done)) _
      (rw (← c.records.invariant.same) judged.0) (rw (← c.records.invariant.same) judged.1);
  same = c.in_default-judge.ensures.same ∙ c.records.invariant.same;
  roomy = enough_still c.records.invariant.roomy c.fscan_held.ensures.room;
  unread = λ at_end. c.fscan_held.ensures.no_read ∙ c.write_records.ensures.written.2.source ∙ c.records.invariant.unread at_end;
  ended = λ at_end. c.fscan_held.ensures.stays ∙ c.write_records.ensures.written.2.at_end ∙ c.records.invariant.ended at_end;
  most = omega (arith, c.write_records.ensures.most, c.records.invariant.most, c.if-passed-eq-MOST_RECORDS.false);
  sound = c.in_default-judge.ensures.failures ∙ c.write_records.ensures.failures ∙ c.records.invariant.sound;
}

pub returns-in_default-fscan_over-clause-loops : goal.returns-in_default-fscan_over-clause-loops
returns-in_default-fscan_over-clause-loops g c t e =
    absurd (true≢false (sym (c.in_default-fscan_over.ensures.enough c.requires
    (enough_still c.records.invariant.roomy c.in_default-fscan_held.ensures.room))))

pub returns-in-Some-judge-2-clause-loops : goal.returns-in-Some-judge-2-clause-loops
returns-in-Some-judge-2-clause-loops g c t e =
    let written = c.write_records.ensures.written in
    let going = same_ahead g.S.Source.failures (c.in_default-fscan_held.ensures.none refl)
    (goes_further g.S.Source.failures told.one_report c.destinations.ensures.proper
    (λ some. bare_lines written.0 _ _ (c.form_in_place-asked.ensures.order written.0 (written.1 some))
    (c.form_in_place-asked.ensures.form written.0 (written.1 some) 1))
    c.write_records.ensures.told written.2 (c.records.invariant.going t e)) in
    let judged = c.in-Some-judge-2.ensures.judged in
    ends_at told.one_report c.destinations.ensures.proper going c.in-Ok-fscan_over.scanned.report
    (c.in-Ok-fscan_over.ensures.scan going.left going.input) c.in-Ok-fscan_over.ensures.stays c.in-Ok-fscan_over.ensures.failures
    c.in-Ok-fscan_over.ensures.bounded
    (omega (arith, c.write_records.ensures.most, c.records.invariant.most, c.if-passed-eq-MOST_RECORDS.false)) c.in-Some-judge-2.end _
    (rw (← c.report.ensures, ← c.records.invariant.same) judged)

pub records-preserved : goal.records-preserved
records-preserved g c = record {
  going = λ t e.
      let written = c.write_records.ensures.written in
      let going = same_ahead g.S.Source.failures (c.in_default-fscan_held.ensures.none refl)
      (goes_further g.S.Source.failures told.one_report c.destinations.ensures.proper
      (λ some. bare_lines written.0 _ _ (c.form_in_place-asked.ensures.order written.0 (written.1 some))
      (c.form_in_place-asked.ensures.form written.0 (written.1 some) 1))
      c.write_records.ensures.told written.2 (c.records.invariant.going t e)) in
      let judged = c.in_default-judge-2.ensures.judged in
      next told.one_report c.destinations.ensures.proper going c.in-Ok-fscan_over.scanned.report
      (c.in-Ok-fscan_over.ensures.scan going.left going.input) c.in-Ok-fscan_over.ensures.stays
      c.in-Ok-fscan_over.ensures.failures c.in-Ok-fscan_over.ensures.bounded _
      (rw (← c.report.ensures, ← c.records.invariant.same) judged.0)
      (rw (← c.report.ensures, ← c.records.invariant.same) judged.1);
  same = c.in_default-judge-2.ensures.same ∙ c.records.invariant.same;
  roomy = rw (c.into_store-store.ensures.kept) c.in-Ok-fscan_over.ensures.room;
  unread = λ at_end.
      c.in-Ok-fscan_over.ensures.no_read
      (c.in_default-fscan_held.ensures.stays ∙ c.write_records.ensures.written.2.at_end ∙ c.records.invariant.ended at_end)
      ∙ c.in_default-fscan_held.ensures.no_read ∙ c.write_records.ensures.written.2.source ∙ c.records.invariant.unread at_end;
  ended = λ at_end.
      c.in-Ok-fscan_over.ensures.stays
      (c.in_default-fscan_held.ensures.stays ∙ c.write_records.ensures.written.2.at_end ∙ c.records.invariant.ended at_end);
  most = omega (arith, c.write_records.ensures.most, c.records.invariant.most, c.if-passed-eq-MOST_RECORDS.false);
  sound = c.in_default-judge-2.ensures.failures ∙ c.write_records.ensures.failures ∙ c.records.invariant.sound;
}

pub returns-then-passed-eq-MOST_RECORDS-clause-loops : goal.returns-then-passed-eq-MOST_RECORDS-clause-loops
returns-then-passed-eq-MOST_RECORDS-clause-loops g c t e =
    let written = c.write_records.ensures.written in
    let going = goes_further g.S.Source.failures told.one_report c.destinations.ensures.proper
    (λ some. bare_lines written.0 _ _ (c.form_in_place-asked.ensures.order written.0 (written.1 some))
    (c.form_in_place-asked.ensures.form written.0 (written.1 some) 1))
    c.write_records.ensures.told written.2 (c.records.invariant.going t e) in
    too_many told.one_report c.destinations.ensures.proper going c.if-passed-eq-MOST_RECORDS.true
    c.ended_by-then-passed-eq-MOST_RECORDS.result c.ended_by-then-passed-eq-MOST_RECORDS.ensures
