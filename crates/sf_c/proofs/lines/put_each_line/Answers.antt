use Rattle.std.proofs.Common.{ℕ, List, arith, drop, length-drop, subst}
use Rattle.std.proofs.lemmas.List.{take_rest}
use Rattle.sf_c.specs.Lines.{IsTextlessLine}
use Rattle.sf_c.proofs.Taking.{line_more, stays_at}
use Rattle.sf_c.proofs.lines.put_each_line.Goals as goal

pub returns-in_default-clause-records : goal.returns-in_default-clause-records
returns-in_default-clause-records c = λ texts before.
    stays_at c.args.lines c.args.format.now c.args.limit c.args.text.now c.loop-rest.done c.loop-rest.values c.put_line.new.values texts
    c.loop-rest.at c.in_default.ensures.front (c.loop-rest.invariant.records texts before)

pub loop-rest-preserved : goal.loop-rest-preserved
loop-rest-preserved c =
    let (row, behind, there) = c.in-Some.ensures.line in
    let used : ℕ = c.loop-rest.done.used in
    let line : IsTextlessLine c.args.format.now c.args.limit (drop used c.args.text.now) c.in-Some.size row =
    subst (λ (x : List ℕ). IsTextlessLine c.args.format.now c.args.limit x c.in-Some.size row) (take_rest c.args.text.now used) there in
    let some = line.some in
    let within = line.within in
    record {
      records = λ texts before.
          line_more c.args.lines c.args.format.now c.args.limit c.args.text.now c.loop-rest.done c.loop-rest.values c.put_line.new.values
          texts c.loop-rest.at c.args.slots c.in-Some.size row c.loop-rest-test.true c.requires.slots line behind
          (c.loop-rest.invariant.records texts before);
      used = omega (arith, within, length-drop used c.args.text.now, c.loop-rest.invariant.used);
      on = omega (arith, c.loop-rest.invariant.on);
      few = omega (arith, some, c.loop-rest.invariant.few);
      room = omega (arith, c.if-slots-values.true, c.put_line.auto.values, c.loop-rest.invariant.room);
      filled = c.loop-rest.invariant.filled;
      failed = c.loop-rest.invariant.failed;
    }
