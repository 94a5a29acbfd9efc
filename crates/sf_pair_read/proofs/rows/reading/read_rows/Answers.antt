use Rattle.std.proofs.Common.{inl, inr, ◌≡◌, ◌+◌, ◌∷◌, [], ◌++◌, ◌∙◌, List, Some, true, length, map, refl, sym, ap, subst, arith}
use Rattle.std.proofs.Common.{append-nil, length-append, true≢false}
use Rattle.std.proofs.lemmas.Result.{err_from_is_err_and}
use Rattle.sf_base.specs.Data.{Datum}
use Rattle.sf_pair.specs.Joined.{joined}
use Rattle.sf_format.specs.declared.directive.Directive.{Directive}
use Rattle.std.specs.List.{AllByRecursion}
use Rattle.sf_read.specs.source.Counts.{counted_on}
use Rattle.sf_read.specs.field.Rows.{present, slots_by}
use Rattle.std.specs.Prelude.{IfSome}
use Rattle.sf_read.specs.RowScans.{HasShape, RowScan, difference_of, is_run}
use Rattle.sf_read.specs.Shapes.{IsDifference}
use Rattle.sf_pair_read.specs.declared.rows.fault.ReadRowsFault.{ReadRowsFault}
use Rattle.sf_pair_read.specs.rows.Reading.{IsMemory, IsUnshaped, RefusesNext, RowsInTurn}
use Rattle.sf_pair_read.proofs.RowLemmas.Back.{Going, all_back, all_read, end_seen, refused, shape_is, start_is, went_on}
use Rattle.sf_pair_read.proofs.RowLemmas.Turns.{all_and_one, ended, one_more, refuses, scanned, unshaped_stops}
use Rattle.sf_pair_read.proofs.rows.reading.read_rows.Goals as goal

pub loop-init : goal.loop-init
loop-init g c = record {
  kept = ap length c.new-rows.ensures.items;
  going = subst (λ done. Going g.S.Source.to_come g.S.Source.failures g.T.Row.kinds g.T.Row.optional g.T.Row.listed c.args.pair.now.print
      c.args.pair.now.scan
      c.args.limit c.args.most c.args.from.now c.args.from.now done) (sym c.new-rows.ensures.items)
      (λ rows z readable shape input sound. (rows, refl, input));
  turns = subst (λ done. RowsInTurn g.S.Source.to_come g.S.Source.reads g.S.Source.failures g.row.N g.T.Row.kinds
      (slots_by g.T.Row.given g.T.Row.listed) c.args.pair.now.scan c.args.limit c.args.from.now done c.args.from.now)
      (sym c.new-rows.ensures.items) refl;
  listed = subst (AllByRecursion (λ row. g.T.Row.listed row ≡ present (slots_by g.T.Row.given g.T.Row.listed row)))
      (sym c.new-rows.ensures.items) tt;
  unread = λ ended. refl;
  stays = λ ended. ended;
}

pub loop-preserved : goal.loop-preserved
loop-preserved g c = record {
  kept = ap length c.in-Ok-push.ensures.items ∙ length-append c.loop.rows.items (c.in-Ok.row ∷ [])
      ∙ ap (λ n. n + 1) c.loop.invariant.kept;
  going = subst (λ done. Going g.S.Source.to_come g.S.Source.failures g.T.Row.kinds g.T.Row.optional g.T.Row.listed c.args.pair.now.print
      c.args.pair.now.scan
      c.args.limit c.args.most c.args.from.now c.scan_row_over.new.from done) (sym c.in-Ok-push.ensures.items)
      (went_on c.pair_laws.ensures.laws c.pair_laws.ensures.nothing c.pair_laws.ensures.one g.S.Source.to_come g.S.Source.reads
      g.S.Source.failures g.row.N c.args.pair.now.print c.args.pair.now.scan c.scan.ensures.checked g.T.Row.kinds g.T.Row.optional
      (slots_by g.T.Row.given g.T.Row.listed) g.T.Row.listed
      c.args.limit
      c.args.most c.args.from.now c.loop.from c.scan_row_over.new.from c.loop.rows.items c.loop.invariant.going
      (omega (arith, c.loop.invariant.kept, c.loop-test.true)) c.scan_row_over.result
      ((subst (λ (ds : List Directive). is_run c.scan_row_over.result ≡ true
      → RowScan g.S.Source.to_come g.S.Source.reads g.S.Source.failures
      g.row.N g.T.Row.kinds (slots_by g.T.Row.given g.T.Row.listed) ds c.args.limit c.loop.from c.scan_row_over.new.from
      c.scan_row_over.result)
      c.scan-in-loop.ensures.value c.scan_row_over.ensures.run) (ap is_run c.in-Ok.is))
      c.scan_row_over.ensures.listed c.in-Ok.row c.in-Ok.is);
  turns = subst (λ done. RowsInTurn g.S.Source.to_come g.S.Source.reads g.S.Source.failures g.row.N g.T.Row.kinds
      (slots_by g.T.Row.given g.T.Row.listed) c.args.pair.now.scan c.args.limit c.args.from.now done c.scan_row_over.new.from)
      (sym c.in-Ok-push.ensures.items)
      (one_more g.S.Source.to_come g.S.Source.reads g.S.Source.failures g.row.N g.T.Row.kinds g.T.Row.optional
      (slots_by g.T.Row.given g.T.Row.listed) c.args.pair.now.scan c.args.limit c.args.from.now c.loop.from
      c.scan_row_over.new.from c.loop.rows.items c.in-Ok.row c.loop.invariant.turns
      (scanned g.S.Source.to_come g.S.Source.reads g.S.Source.failures g.row.N g.T.Row.kinds g.T.Row.optional
      (slots_by g.T.Row.given g.T.Row.listed) c.args.pair.now.scan c.args.limit c.loop.from c.scan_row_over.new.from c.scan_row_over.result
      (subst (λ (ds : List Directive). is_run c.scan_row_over.result ≡ true → RowScan g.S.Source.to_come g.S.Source.reads
      g.S.Source.failures
      g.row.N g.T.Row.kinds (slots_by g.T.Row.given g.T.Row.listed) ds c.args.limit c.loop.from c.scan_row_over.new.from
      c.scan_row_over.result) c.scan-in-loop.ensures.value c.scan_row_over.ensures.run) c.in-Ok.row c.in-Ok.is));
  listed = subst (AllByRecursion (λ row. g.T.Row.listed row ≡ present (slots_by g.T.Row.given g.T.Row.listed row)))
      (sym c.in-Ok-push.ensures.items)
      (all_and_one (λ row. g.T.Row.listed row ≡ present (slots_by g.T.Row.given g.T.Row.listed row)) c.loop.rows.items c.in-Ok.row
      c.loop.invariant.listed c.in-Ok.ensures.listed);
  unread = λ ended. c.scan_row_over.ensures.no_read (c.loop.invariant.stays ended) ∙ c.loop.invariant.unread ended;
  stays = λ ended. c.scan_row_over.ensures.stays (c.loop.invariant.stays ended);
}

pub returns-then-is_end-clause-back : goal.returns-then-is_end-clause-back
returns-then-is_end-clause-back g c =
    all_back c.pair_laws.ensures.laws c.pair_laws.ensures.nothing c.pair_laws.ensures.one g.S.Source.to_come g.S.Source.reads
    g.S.Source.failures g.row.N c.args.pair.now.print c.args.pair.now.scan c.scan.ensures.checked g.T.Row.kinds g.T.Row.optional
    (slots_by g.T.Row.given g.T.Row.listed) g.T.Row.listed c.args.limit
    c.args.most c.args.from.now c.loop.from c.scan_row_over.new.from c.loop.rows.items c.loop.invariant.going
    (omega (arith, c.loop.invariant.kept, c.loop-test.true)) c.scan_row_over.result
    (subst (λ (ds : List Directive). is_run c.scan_row_over.result ≡ true → RowScan g.S.Source.to_come g.S.Source.reads g.S.Source.failures
    g.row.N g.T.Row.kinds (slots_by g.T.Row.given g.T.Row.listed) ds c.args.limit c.loop.from c.scan_row_over.new.from
    c.scan_row_over.result)
    c.scan-in-loop.ensures.value c.scan_row_over.ensures.run)
    c.scan_row_over.ensures.listed c.in-Err.why c.in-Err.is (sym c.is_end.ensures ∙ c.if-is_end.true)

pub returns-in-Err-clause-refused : goal.returns-in-Err-clause-refused
returns-in-Err-clause-refused g c = λ rows z readable shape input sound.
    subst IsMemory (sym (ap (λ (f : ReadRowsFault). f.why) c.fault_after-in-Err.ensures))
    (refused c.pair_laws.ensures.laws c.pair_laws.ensures.nothing c.pair_laws.ensures.one g.S.Source.to_come g.S.Source.reads
    g.S.Source.failures g.row.N c.args.pair.now.print c.args.pair.now.scan c.scan.ensures.checked g.T.Row.kinds g.T.Row.optional
    (slots_by g.T.Row.given g.T.Row.listed) g.T.Row.listed c.args.limit
    c.args.most c.args.from.now c.loop.from c.scan_row_over.new.from c.loop.rows.items c.loop.invariant.going
    (omega (arith, c.loop.invariant.kept, c.loop-test.true)) c.scan_row_over.result
    (subst (λ (ds : List Directive). is_run c.scan_row_over.result ≡ true → RowScan g.S.Source.to_come g.S.Source.reads g.S.Source.failures
    g.row.N g.T.Row.kinds (slots_by g.T.Row.given g.T.Row.listed) ds c.args.limit c.loop.from c.scan_row_over.new.from
    c.scan_row_over.result)
    c.scan-in-loop.ensures.value c.scan_row_over.ensures.run)
    c.scan_row_over.ensures.listed c.in-Err.why c.in-Err.is (sym c.is_end.ensures ∙ c.if-is_end.false)
    (shape_is c.scan_row_over.result c.in-Err.why g.T.Row.kinds g.T.Row.optional c.args.pair.now.scan c.in-Err.is
    (λ h own. c.scan_row_over.ensures.shape.0 h (subst (HasShape g.T.Row.kinds g.T.Row.optional) (sym c.scan-in-loop.ensures.value) own)))
    (start_is c.scan_row_over.result c.in-Err.why g.T.Row.kinds g.T.Row.optional c.args.pair.now.scan c.args.limit c.in-Err.is
    (λ h. let both = c.scan_row_over.ensures.limit.0 h in (
      subst (HasShape g.T.Row.kinds g.T.Row.optional) c.scan-in-loop.ensures.value
          both.0,
      both.1,
    ))
    c.scan_row_over.ensures.start) rows z readable shape input sound)

pub returns-clause-back : goal.returns-clause-back
returns-clause-back g c = λ rows z readable shape input sound.
    let (left, is, rest) = c.loop.invariant.going rows z readable shape input sound in
    let none : left ≡ [] = all_read g.T.Row.listed c.args.pair.now.print c.args.pair.now.scan c.args.limit c.args.most rows z
    c.loop.rows.items
    left readable is (omega (arith, c.loop.invariant.kept, c.loop-test.false)) in (
      sym (is ∙ ap (λ (l : List (List Datum)). map g.T.Row.listed c.loop.rows.items ++ l) none ∙ append-nil
          (map g.T.Row.listed c.loop.rows.items)),
      rest ∙ ap (λ (l : List (List Datum)). Some (joined c.args.pair.now.print l ++ z)) none,
    )

pub returns-then-is_end-clause-ended : goal.returns-then-is_end-clause-ended
returns-then-is_end-clause-ended g c =
    inr (end_seen g.S.Source.to_come g.S.Source.reads g.S.Source.failures g.row.N g.T.Row.kinds (slots_by g.T.Row.given g.T.Row.listed)
    c.scan-in-loop.result.now
    c.args.limit c.loop.from c.scan_row_over.new.from c.scan_row_over.result c.in-Err.why c.in-Err.is
    (sym c.is_end.ensures ∙ c.if-is_end.true) c.scan_row_over.ensures.run)

pub returns-clause-ended : goal.returns-clause-ended
returns-clause-ended g c =
    inl (omega (arith, c.loop.rows.ok.0, c.loop.invariant.kept, c.loop-test.false, c.loop.auto.counter-end))

-- ---- any rows

pub returns-then-is_end-clause-rows : goal.returns-then-is_end-clause-rows
returns-then-is_end-clause-rows g c = record {
  now = c.loop.from;
  turns = c.loop.invariant.turns;
  ends = inr (
    omega (arith, c.loop.invariant.kept, c.loop-test.true),
    (
      c.in-Err.why,
      sym c.is_end.ensures ∙ c.if-is_end.true,
      ended g.S.Source.to_come g.S.Source.reads g.S.Source.failures g.row.N g.T.Row.kinds g.T.Row.optional
          (slots_by g.T.Row.given g.T.Row.listed) c.args.pair.now.scan c.args.limit c.loop.from c.scan_row_over.new.from
          c.scan_row_over.result
          (subst (λ (ds : List Directive). is_run c.scan_row_over.result ≡ true → RowScan g.S.Source.to_come g.S.Source.reads
          g.S.Source.failures
          g.row.N g.T.Row.kinds (slots_by g.T.Row.given g.T.Row.listed) ds c.args.limit c.loop.from c.scan_row_over.new.from
          c.scan_row_over.result) c.scan-in-loop.ensures.value c.scan_row_over.ensures.run) c.in-Err.why c.in-Err.is (sym
          c.is_end.ensures ∙ c.if-is_end.true),
    ),
  );
}

pub returns-then-is_end-clause-listed : goal.returns-then-is_end-clause-listed
returns-then-is_end-clause-listed g c = c.loop.invariant.listed

pub returns-then-is_end-clause-no_read : goal.returns-then-is_end-clause-no_read
returns-then-is_end-clause-no_read g c =
    λ ended. c.scan_row_over.ensures.no_read (c.loop.invariant.stays ended) ∙ c.loop.invariant.unread ended

pub returns-then-is_end-clause-stays : goal.returns-then-is_end-clause-stays
returns-then-is_end-clause-stays g c = λ ended. c.scan_row_over.ensures.stays (c.loop.invariant.stays ended)

pub returns-clause-rows : goal.returns-clause-rows
returns-clause-rows g c = record {
  now = c.loop.from;
  turns = c.loop.invariant.turns;
  ends = inl (omega (arith, c.loop.invariant.kept, c.loop-test.false, c.loop.auto.counter-end), refl);
}

pub returns-clause-listed : goal.returns-clause-listed
returns-clause-listed g c = c.loop.invariant.listed

pub returns-clause-no_read : goal.returns-clause-no_read
returns-clause-no_read g c = c.loop.invariant.unread

pub returns-clause-stays : goal.returns-clause-stays
returns-clause-stays g c = c.loop.invariant.stays

pub returns-in-Err-clause-stops : goal.returns-in-Err-clause-stops
returns-in-Err-clause-stops g c = record {
  before = c.loop.rows.items;
  now = c.loop.from;
  turns = c.loop.invariant.turns;
  number = ap (λ (f : ReadRowsFault). f.row) c.fault_after-in-Err.ensures ∙ ap counted_on (c.len-in-Err.ensures ∙ c.loop.rows.ok.0);
  refusal =
      subst (RefusesNext g.S.Source.to_come g.S.Source.reads g.S.Source.failures g.row.N g.T.Row.kinds g.T.Row.optional
      (slots_by g.T.Row.given g.T.Row.listed) c.args.pair.now.scan c.args.limit c.loop.from c.scan_row_over.new.from)
      (sym (ap (λ (f : ReadRowsFault). f.why) c.fault_after-in-Err.ensures))
      (refuses g.S.Source.to_come g.S.Source.reads g.S.Source.failures g.row.N g.T.Row.kinds g.T.Row.optional
      (slots_by g.T.Row.given g.T.Row.listed) c.args.pair.now.scan c.args.limit c.loop.from c.scan_row_over.new.from c.scan_row_over.result
      (subst (λ (ds : List Directive). is_run c.scan_row_over.result ≡ true → RowScan g.S.Source.to_come g.S.Source.reads
      g.S.Source.failures
      g.row.N g.T.Row.kinds (slots_by g.T.Row.given g.T.Row.listed) ds c.args.limit c.loop.from c.scan_row_over.new.from
      c.scan_row_over.result) c.scan-in-loop.ensures.value c.scan_row_over.ensures.run) c.in-Err.why c.in-Err.is (sym c.is_end.ensures
      ∙ c.if-is_end.false) c.scan_row_over.ensures.unread
      (subst (HasShape g.T.Row.kinds g.T.Row.optional) c.scan.ensures.value (c.in_ok-check_rows.ensures.same.0 refl))
      (λ h own. c.scan_row_over.ensures.shape.0 h (subst (HasShape g.T.Row.kinds g.T.Row.optional) (sym c.scan-in-loop.ensures.value) own))
      (subst (λ (ds : List Directive). IfSome (difference_of c.scan_row_over.result) (IsDifference g.T.Row.kinds g.T.Row.optional ds))
      c.scan-in-loop.ensures.value c.scan_row_over.ensures.differs)
      (λ h. (c.scan_row_over.ensures.limit.0 h).1) c.scan_row_over.ensures.start);
}

pub returns-in-Err-clause-no_read : goal.returns-in-Err-clause-no_read
returns-in-Err-clause-no_read g c =
    λ ended. c.scan_row_over.ensures.no_read (c.loop.invariant.stays ended) ∙ c.loop.invariant.unread ended

pub returns-in-Err-clause-stays : goal.returns-in-Err-clause-stays
returns-in-Err-clause-stays g c = λ ended. c.scan_row_over.ensures.stays (c.loop.invariant.stays ended)

pub returns-in-Err-push-clause-stops : goal.returns-in-Err-push-clause-stops
returns-in-Err-push-clause-stops g c = record {
  before = c.loop.rows.items;
  now = c.loop.from;
  turns = c.loop.invariant.turns;
  number = ap (λ (f : ReadRowsFault). f.row) c.fault_after.ensures
      ∙ ap counted_on (c.len.ensures ∙ c.in-Err-push.ensures.len ∙ c.loop.rows.ok.0);
  refusal = subst (RefusesNext g.S.Source.to_come g.S.Source.reads g.S.Source.failures g.row.N g.T.Row.kinds g.T.Row.optional
      (slots_by g.T.Row.given g.T.Row.listed) c.args.pair.now.scan c.args.limit c.loop.from c.scan_row_over.new.from)
      (sym (ap (λ (f : ReadRowsFault). f.why) c.fault_after.ensures))
      (inr (
        c.in-Ok.row,
        scanned g.S.Source.to_come g.S.Source.reads g.S.Source.failures g.row.N g.T.Row.kinds g.T.Row.optional
            (slots_by g.T.Row.given g.T.Row.listed) c.args.pair.now.scan c.args.limit c.loop.from c.scan_row_over.new.from
            c.scan_row_over.result
            (subst (λ (ds : List Directive). is_run c.scan_row_over.result ≡ true → RowScan g.S.Source.to_come g.S.Source.reads
            g.S.Source.failures
            g.row.N g.T.Row.kinds (slots_by g.T.Row.given g.T.Row.listed) ds c.args.limit c.loop.from c.scan_row_over.new.from
            c.scan_row_over.result) c.scan-in-loop.ensures.value c.scan_row_over.ensures.run) c.in-Ok.row c.in-Ok.is,
      ));
}

pub returns-in-Err-push-clause-no_read : goal.returns-in-Err-push-clause-no_read
returns-in-Err-push-clause-no_read g c =
    λ ended. c.scan_row_over.ensures.no_read (c.loop.invariant.stays ended) ∙ c.loop.invariant.unread ended

pub returns-in-Err-push-clause-stays : goal.returns-in-Err-push-clause-stays
returns-in-Err-push-clause-stays g c = λ ended. c.scan_row_over.ensures.stays (c.loop.invariant.stays ended)

pub returns-in_err-check_rows-clause-stops : goal.returns-in_err-check_rows-clause-stops
returns-in_err-check_rows-clause-stops g c =
    let p = err_from_is_err_and c.from_residual.result c.from_residual.ensures.1 in
    let fault : ReadRowsFault = c.in_err-check_rows.field-0.0 in
    rw (p.1, p.2) (unshaped_stops g.S.Source.to_come g.S.Source.reads g.S.Source.failures g.row.N g.T.Row.kinds g.T.Row.optional
    (slots_by g.T.Row.given g.T.Row.listed) c.args.pair.now.scan c.args.limit c.args.from.now fault
    (λ own. true≢false (sym (c.in_err-check_rows.ensures.same.1
    (subst (HasShape g.T.Row.kinds g.T.Row.optional) (sym c.scan.ensures.value) own))))
    (subst (λ (ds : List Directive). IsUnshaped g.T.Row.kinds g.T.Row.optional ds fault) c.scan.ensures.value
    c.in_err-check_rows.ensures.differs))
