use Rattle.std.proofs.Common.{◌≡◌, ◌∙◌, ◌≤◌, ◌<◌, ◌+◌, ◌-◌, ◌++◌, ◌∷◌, [], ℕ, List, true, ap, arith, drop, inl, inr, length, length-append}
use Rattle.std.proofs.Common.{refl, subst, sym, take, true≢false}
use Rattle.std.proofs.lemmas.List.{take_rest}
use Rattle.sf_run.specs.Runs.{RunReport}
use Rattle.sf_c.specs.declared.records.SfDone.{SfDone}
use Rattle.sf_c.specs.declared.values.SfValue.{SfValue}
use Rattle.sf_c.specs.Lines.{AreAt}
use Rattle.sf_c.specs.Records.{AreCutShort, AreRecords, AreRows, IsRunAt, IsTaken}
use Rattle.sf_c.specs.Scans.{HasNoRoom, outcome_by, slots_in}
use Rattle.sf_c.specs.Values.{IsRow}
use Rattle.sf_c.proofs.Cells.{rows_longer, rows_more}
use Rattle.sf_c.proofs.Runs.{outcome_is, records_more, size_some, taken_is}
use Rattle.sf_c.proofs.records.scan_records.Goals as goal

pub records-init : goal.records-init
records-init c =
    let nothing = c.requires.nothing in
    let before : AreAt c.args.lines c.args.format.now c.args.limit c.args.text.now c.args.done.now c.args.values.now c.args.texts.now 0 = (
      record {
        reports = [];
        are = ap (λ (d : SfDone). d.used) nothing;
        count = ap (λ (d : SfDone). d.records) nothing;
        cells = [];
        laid = refl;
        rows = refl;
      },
      refl,
    ) in
    record {
      scanned = c.put_lines-at.ensures.records c.args.texts.now before;
      used = c.put_lines-at.ensures.used;
      filled = omega (arith, c.put_lines-at.ensures.filled, ap (λ (d : SfDone). d.filled) nothing);
      few = c.put_lines-at.ensures.few;
      failed = c.put_lines-at.ensures.failed ∙ ap (λ (d : SfDone). d.failed) nothing;
      at = c.put_lines-at.ensures.room;
    }

pub returns-then-values-at-clause-full : goal.returns-then-values-at-clause-full
returns-then-values-at-clause-full c = λ is.
    let (scanned, count) = c.records.invariant.scanned in
    record {
      records = scanned;
      left = c.records-test.true;
      full = inl (omega (arith, count, c.if-values-at.true, c.destinations-slots.ensures.count, c.records.auto.values));
    }

pub returns-then-not-is_taken-clause-ended : goal.returns-then-not-is_taken-clause-ended
returns-then-not-is_taken-clause-ended c = λ is.
    let (scanned, count) = c.records.invariant.scanned in
    let report : RunReport = c.in-Run.scanned.report in
    let size : ℕ = c.in-Run.size in
    let left : List ℕ = drop c.records.done.used c.args.text.now in
    let front = subst (λ (x : List ℕ). IsRunAt c.args.lines c.args.format.now c.args.limit x size report × (size ≤ length x)
    × (c.args.lines ≡ true → 0 < size)) (take_rest c.args.text.now c.records.done.used) c.in-Run.ensures.front in
    let o = c.outcome.ensures in
    let taken = taken_is c.args.lines c.args.format.now report c.outcome.result c.is_taken.result
    (outcome_is c.outcome.result report o.status o.at o.assigned o.converted o.used o.met) c.is_taken.ensures.going
    c.is_taken.ensures.line in
    record {
      records = record {
        reports = scanned.reports;
        are = scanned.are;
        count = scanned.count;
        cells = scanned.cells;
        laid = scanned.laid;
        rows = scanned.rows;
      };
      end = inr (inl (
        report,
        front.0,
        λ yes. true≢false (sym (taken.1 yes) ∙ c.if-not-is_taken.true),
        c.outcome_by.ensures ∙ ap (λ (r : RunReport). outcome_by r c.destinations-slots.result) c.report-report.ensures
            ∙ ap (outcome_by report) c.destinations-slots.ensures.count,
      ));
    }

pub returns-then-not-put_next-clause-full : goal.returns-then-not-put_next-clause-full
returns-then-not-put_next-clause-full c = λ is.
    let (scanned, count) = c.records.invariant.scanned in
    let report : RunReport = c.in-Run.scanned.report in
    let size : ℕ = c.in-Run.size in
    let left : List ℕ = drop c.records.done.used c.args.text.now in
    let front = subst (λ (x : List ℕ). IsRunAt c.args.lines c.args.format.now c.args.limit x size report × (size ≤ length x)
    × (c.args.lines ≡ true → 0 < size)) (take_rest c.args.text.now c.records.done.used) c.in-Run.ensures.front in
    let bytes : ℕ = length c.records.texts - c.records.done.filled in
    let over : HasNoRoom c.args.format.now report (length c.records.values) bytes =
    subst (λ (r : RunReport). HasNoRoom c.args.format.now r (length c.records.values) bytes) c.report-report.ensures
    (c.put_next.ensures.no_room c.if-not-put_next.true) in
    let none : HasNoRoom c.args.format.now report (length c.records.values - length scanned.cells) bytes =
    elim over [ inl few ↦ inl (omega (arith, few)) | inr long ↦ inr long ] in
    let before : AreCutShort c.args.lines c.args.format.now c.args.limit c.args.text.now c.records.done c.records.values c.records.texts =
    record { records = scanned; left = c.records-test.true; full = inr (size, report, front.0, none) } in
    let same = c.put_next.ensures.full c.if-not-put_next.true in
    subst (λ (d : SfDone). AreCutShort c.args.lines c.args.format.now c.args.limit c.args.text.now d c.put_next.new.values
    c.put_next.new.texts)
    (sym same.2)
    (subst (λ (t : List ℕ). AreCutShort c.args.lines c.args.format.now c.args.limit c.args.text.now c.records.done c.put_next.new.values t)
    (sym same.1)
    (subst (λ (v : List SfValue). AreCutShort c.args.lines c.args.format.now c.args.limit c.args.text.now c.records.done v c.records.texts)
    (sym same.0) before))

pub records-preserved : goal.records-preserved
records-preserved c =
    let (scanned, count) = c.records.invariant.scanned in
    let report : RunReport = c.in-Run.scanned.report in
    let size : ℕ = c.in-Run.size in
    let left : List ℕ = drop c.records.done.used c.args.text.now in
    let front = subst (λ (x : List ℕ). IsRunAt c.args.lines c.args.format.now c.args.limit x size report × (size ≤ length x)
    × (c.args.lines ≡ true → 0 < size)) (take_rest c.args.text.now c.records.done.used) c.in-Run.ensures.front in
    let o = c.outcome.ensures in
    let taken = taken_is c.args.lines c.args.format.now report c.outcome.result c.is_taken.result
    (outcome_is c.outcome.result report o.status o.at o.assigned o.converted o.used o.met) c.is_taken.ensures.going
    c.is_taken.ensures.line in
    let yes = c.if-not-put_next.false in
    let is : IsTaken c.args.lines c.args.format.now report = taken.0 c.if-not-is_taken.false in
    let (row, laid, row_there) = c.put_next.ensures.row yes in
    let (more, texts_are) = c.put_next.ensures.before yes in
    let texts : List ℕ = take c.put_next.new.done.filled c.put_next.new.texts in
    let row_is : IsRow texts c.args.format.now report.values row =
    subst (λ (r : RunReport). IsRow texts c.args.format.now r.values row) c.report-report.ensures row_there in
    let len : length (scanned.cells ++ row) ≡ c.records.at + slots_in c.args.format.now =
    omega (arith, length-append scanned.cells row, count, row_is.count) in
    let some : 0 < size = size_some c.args.lines c.args.format.now c.args.limit left size report front.0 is front.2 in
    let before : AreAt c.args.lines c.args.format.now c.args.limit c.args.text.now c.put_next.new.done c.put_next.new.values
    c.put_next.new.texts (c.records.at + c.destinations-slots.result) = (
      record {
        reports = scanned.reports ++ report ∷ [];
        are = subst (AreRecords c.args.lines c.args.format.now c.args.limit c.args.text.now (scanned.reports ++ report ∷ []))
            (sym (c.put_next.ensures.size yes))
            (records_more c.args.lines c.args.format.now c.args.limit c.args.text.now scanned.reports report c.records.done.used size
            scanned.are front.0 is);
        count = omega (arith, c.put_next.ensures.records yes, scanned.count, length-append scanned.reports (report ∷ []));
        cells = scanned.cells ++ row;
        laid = ap (λ (n : ℕ). take n c.put_next.new.values) len ∙ laid
            ∙ ap (λ (x : List SfValue). x ++ row) (ap (λ (n : ℕ). take n c.records.values) (sym count) ∙ scanned.laid);
        rows = rows_more texts c.args.format.now scanned.reports report scanned.cells row
            (subst (λ (t : List ℕ). AreRows t c.args.format.now scanned.reports scanned.cells) (sym texts_are)
            (rows_longer (take c.records.done.filled c.records.texts) more c.args.format.now scanned.reports scanned.cells scanned.rows))
            row_is;
      },
      omega (arith, len, c.destinations-slots.ensures.count),
    ) in
    record {
      scanned = c.put_lines-at-in-Run.ensures.records c.put_next.new.texts before;
      used = c.put_lines-at-in-Run.ensures.used;
      filled = omega (arith, c.put_next.ensures.within yes, c.put_lines-at-in-Run.ensures.filled);
      few = c.put_lines-at-in-Run.ensures.few;
      failed = c.put_lines-at-in-Run.ensures.failed ∙ c.put_next.ensures.failed ∙ c.records.invariant.failed;
      at = c.put_lines-at-in-Run.ensures.room;
    }
