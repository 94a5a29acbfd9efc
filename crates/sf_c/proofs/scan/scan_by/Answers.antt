use Rattle.std.proofs.Common.{◌≡◌, ◌∙◌, ◌≤◌, ℕ, ap, arith, inl, inr, length, subst, sym, take, true≢false, zero-add}
use Rattle.std.proofs.Math.Nat.{lt_of_not-le}
use Rattle.sf_run.specs.Runs.{RunReport}
use Rattle.sf_c.specs.Scans.{outcome_by, slots_in}
use Rattle.sf_c.specs.Values.{IsRow, texts_to}
use Rattle.sf_c.proofs.Cells.{row_whole}
use Rattle.sf_c.proofs.scan.scan_by.Goals as goal

pub returns-then-values-slots-clause-no_room : goal.returns-then-values-slots-clause-no_room
returns-then-values-slots-clause-no_room c = λ is. record {
  report = c.in-Ok.scanned.report;
  run = record {
    told = c.in-Ok.ensures.report;
    bounded = c.in-Ok.ensures.bounded;
    outcome_is = c.outcome_by.ensures ∙ ap (λ (r : RunReport). outcome_by r c.destinations-slots.result) c.report-report.ensures
        ∙ ap (outcome_by c.in-Ok.scanned.report) c.destinations-slots.ensures.count;
  };
  none = inl (omega (arith, c.if-values-slots.true, c.destinations-slots.ensures.count));
}

pub returns-in-None-clause-no_room : goal.returns-in-None-clause-no_room
returns-in-None-clause-no_room c = λ is.
    let over : length (texts_to c.destinations-slots.result c.report-report.result.values) ≤ c.min.result → ⊥ =
    λ few. true≢false (sym (c.in-None.ensures.fits.1 few)) in
    let same : length (texts_to c.destinations-slots.result c.report-report.result.values)
    ≡ length (texts_to (slots_in c.args.format.now) c.in-Ok.scanned.report.values) =
    ap (λ (r : RunReport). length (texts_to c.destinations-slots.result r.values)) c.report-report.ensures
    ∙ ap (λ (n : ℕ). length (texts_to n c.in-Ok.scanned.report.values)) c.destinations-slots.ensures.count in
    record {
      report = c.in-Ok.scanned.report;
      run = record {
        told = c.in-Ok.ensures.report;
        bounded = c.in-Ok.ensures.bounded;
        outcome_is = c.outcome_by.ensures ∙ ap (λ (r : RunReport). outcome_by r c.destinations-slots.result) c.report-report.ensures
            ∙ ap (outcome_by c.in-Ok.scanned.report) c.destinations-slots.ensures.count;
      };
      none = inr (omega (arith, lt_of_not-le over, same, c.min.ensures));
    }

pub returns-clause-scanned : goal.returns-clause-scanned
returns-clause-scanned c = λ is.
    let (row, front, laid) = c.put_row.ensures.row in
    record {
      report = c.in-Ok.scanned.report;
      run = record {
        told = c.in-Ok.ensures.report;
        bounded = c.in-Ok.ensures.bounded;
        outcome_is = c.outcome_by.ensures ∙ ap (λ (r : RunReport). outcome_by r c.destinations-slots.result) c.report-report.ensures
            ∙ ap (outcome_by c.in-Ok.scanned.report) c.destinations-slots.ensures.count;
      };
      row = subst (λ (r : RunReport). IsRow c.put_row.new.texts c.args.format.now r.values
          (take (slots_in c.args.format.now) c.put_row.new.values))
          c.report-report.ensures
          (subst (IsRow c.put_row.new.texts c.args.format.now c.report-report.result.values)
          (sym front ∙ ap (λ (n : ℕ). take n c.put_row.new.values) (zero-add (slots_in c.args.format.now)))
          (row_whole _ c.put_row.new.texts c.args.format.now c.report-report.result.values row laid));
    }
