use Rattle.std.proofs.Common.{arith, subst, take}
use Rattle.sf_records.specs.by_lines.InPlace.{IsLineRecord}
use Rattle.sf_records.proofs.LinewiseLemmas.InPlace.{lines_more, no_lines}
use Rattle.sf_records.proofs.by_lines.in_place.write_each.Goals as goal

pub loop-runs-init : goal.loop-runs-init
loop-runs-init c = record {
  place = omega arith;
  few = omega arith;
  within = omega arith;
  runs = no_lines c.args.form c.args.format.now c.args.options.now c.args.piece.now;
}

pub loop-runs-preserved : goal.loop-runs-preserved
loop-runs-preserved c =
    let form = c.args.form in
    let ds = c.args.format.now in
    let o = c.args.options.now in
    let l = c.loop-runs in
    let line = c.in-Some.line in
    let new = c.in-Some.ensures.written in
    let own : IsLineRecord form ds o _ line.bytes new.0 =
    subst (λ y. IsLineRecord form ds o y line.bytes new.0) c.split_at.ensures.back new.1 in
    let within = c.in-Some.ensures.within in
    let low = l.invariant.within in
    record {
      place = c.in-Some.ensures.place;
      few = omega (arith, c.loop-runs-test.true);
      within = omega (arith, within, low, c.split_at.ensures.back_len);
      runs = lines_more form ds o c.args.piece.now l.runs.lines l.runs.used line.bytes (take l.runs.end l.room) new.0 _ l.invariant.runs
          own new.2;
    }
