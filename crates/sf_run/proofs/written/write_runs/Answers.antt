use Rattle.std.proofs.Common.{arith, subst, take}
use Rattle.sf_run.specs.Written.{IsRecord}
use Rattle.sf_run.proofs.Writing.{no_records, records_more}
use Rattle.sf_run.proofs.written.write_runs.Goals as goal

pub loop-runs-init : goal.loop-runs-init
loop-runs-init g c = record {
  place = omega arith;
  few = omega arith;
  within = omega arith;
  runs = no_records g.W.ValueWriter.whole c.args.format.now c.args.limit c.args.piece.now;
}

pub loop-runs-preserved : goal.loop-runs-preserved
loop-runs-preserved g c =
    let whole = g.W.ValueWriter.whole in
    let l = c.loop-runs in
    let run = c.in-Some.run' in
    let new = c.in-Some.ensures.written in
    let own : IsRecord whole c.args.format.now c.args.limit _ run.used new.0 =
    subst (λ y. IsRecord whole c.args.format.now c.args.limit y run.used new.0) c.split_at.ensures.back new.1 in
    let within = new.1.part.within in
    let low = l.invariant.within in
    record {
      place = c.in-Some.ensures.place;
      few = omega (arith, c.loop-runs-test.true);
      within = omega (arith, within, low, c.split_at.ensures.back_len);
      runs = records_more whole c.args.format.now c.args.limit c.args.piece.now l.runs.records l.runs.used run.used
          (take l.runs.end l.room) new.0 _ l.invariant.runs own new.2;
    }
