use Rattle.std.proofs.Common.{◌+◌, ◌∙◌, List, map, drop, take, suc, sym, ap, subst, refl}
use Rattle.std.proofs.KnownBytes.{Appends-nil}
use Rattle.std.proofs.lemmas.List.{take_all}
use Rattle.std.specs.List.{AllByRecursion}
use Rattle.std.specs.Io.KnownBytes.{Appends}
use Rattle.sf_base.specs.Data.{Datum, datum_of}
use Rattle.sf_pair.specs.Fits.{Fit}
use Rattle.sf_pair.specs.Joined.{joined}
use Rattle.sf_pair_read.proofs.RowLemmas.Written.{WritesRow, cut_at, fit_more, joined_more, row_refused, row_written, some_at}
use Rattle.sf_pair_read.proofs.rows.writing.write_rows.Goals as goal

pub loop-before-init : goal.loop-before-init
loop-before-init g c = record { written = Appends-nil (g.K.Sink.contents c.args.to.now); fit = tt; sound = refl }

pub loop-before-preserved : goal.loop-before-preserved
loop-before-preserved g c =
    let f = c.args.pair.now in
    let listed : List Datum = g.T.Row.listed c.index-rows-before.result in
    let w = c.write.ensures in
    let at = some_at c.args.rows.now c.loop-before.before _ c.index-rows-before.result c.index-rows-before.is c.loop-before-test.true in
    let own = row_written c.pair_laws.ensures.fits f.print f.scan listed (g.K.Sink.contents c.loop-before.to)
    (g.K.Sink.contents c.write.new.to) (g.K.Sink.failures c.loop-before.to) (g.K.Sink.failures c.write.new.to) c.write.result
    c.in_default.field-0 c.in_default.is (subst
    (λ (v : List Datum). WritesRow c.pair_laws.ensures.fits f.print f.scan v (g.K.Sink.contents c.loop-before.to)
    (g.K.Sink.contents c.write.new.to) (g.K.Sink.failures c.loop-before.to) (g.K.Sink.failures c.write.new.to) c.write.result)
    (ap (map datum_of) c.deref.ensures.0 ∙ c.with_values.ensures) (record {
      unfit = w.unfit;
      nothing = λ h. ap g.K.Sink.contents (w.nothing h);
      long = λ fit long. (let both = w.long fit long in (both.0, ap g.K.Sink.contents both.1));
      written = w.written;
      failed = w.failures;
    })) in
    record {
      written = joined_more f.print f.scan g.T.Row.listed c.args.rows.now c.loop-before.before c.index-rows-before.result
          at (g.K.Sink.contents c.args.to.now) (g.K.Sink.contents c.loop-before.to) (g.K.Sink.contents c.write.new.to)
          c.loop-before.invariant.written own.1;
      fit = fit_more f.print f.scan g.T.Row.listed c.args.rows.now c.loop-before.before c.index-rows-before.result at
          c.loop-before.invariant.fit own.0;
      sound = own.2 ∙ c.loop-before.invariant.sound;
    }

pub returns-in-Err-clause-fault : goal.returns-in-Err-clause-fault
returns-in-Err-clause-fault g c =
    let f = c.args.pair.now in
    let listed : List Datum = g.T.Row.listed c.index-rows-before.result in
    let cut = cut_at c.args.rows.now c.loop-before.before c.index-rows-before.result
    (some_at c.args.rows.now c.loop-before.before _ c.index-rows-before.result c.index-rows-before.is c.loop-before-test.true) in
    let w = c.write.ensures in
    record {
      before = take c.loop-before.before c.args.rows.now;
      row = c.index-rows-before.result;
      after = drop (suc c.loop-before.before) c.args.rows.now;
      rows_are = cut.1;
      number = ap (λ n. n + 1) (sym cut.2);
      fit = c.loop-before.invariant.fit;
      mid = c.loop-before.to;
      written = c.loop-before.invariant.written;
      sound = c.loop-before.invariant.sound;
      refusal = row_refused c.pair_laws.ensures.fits f.print f.scan listed (g.K.Sink.contents c.loop-before.to)
          (g.K.Sink.contents c.write.new.to) (g.K.Sink.failures c.loop-before.to)
          (g.K.Sink.failures c.write.new.to) c.write.result c.in-Err.why
          c.in-Err.is (subst (λ (v : List Datum). WritesRow c.pair_laws.ensures.fits f.print f.scan v (g.K.Sink.contents c.loop-before.to)
          (g.K.Sink.contents c.write.new.to) (g.K.Sink.failures c.loop-before.to) (g.K.Sink.failures c.write.new.to) c.write.result)
          (ap (map datum_of) c.deref.ensures.0 ∙ c.with_values.ensures) (record {
            unfit = w.unfit;
            nothing = λ h. ap g.K.Sink.contents (w.nothing h);
            long = λ fit long. (let both = w.long fit long in (both.0, ap g.K.Sink.contents both.1));
            written = w.written;
            failed = w.failures;
          }));
    }

pub returns-clause-written : goal.returns-clause-written
returns-clause-written g c =
    subst (λ rows. Appends (g.K.Sink.contents c.args.to.now) (g.K.Sink.contents c.loop-before.to)
    (joined c.args.pair.now.print (map g.T.Row.listed rows))) (take_all c.loop-before.before c.args.rows.now c.loop-before-test.false)
    c.loop-before.invariant.written

pub returns-clause-fit : goal.returns-clause-fit
returns-clause-fit g c =
    subst (λ rows. AllByRecursion (Fit c.args.pair.now.print c.args.pair.now.scan) (map g.T.Row.listed rows))
    (take_all c.loop-before.before c.args.rows.now c.loop-before-test.false) c.loop-before.invariant.fit
