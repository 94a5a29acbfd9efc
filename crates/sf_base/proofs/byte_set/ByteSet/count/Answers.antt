use Rattle.std.proofs.Common.{◌∙◌, sym, arith}
use Rattle.sf_base.specs.Sets.{has_byte}
use Rattle.sf_base.proofs.Sets.{count_below-zero, count_below-more, length-marks_of}
use Rattle.sf_base.proofs.byte_set.ByteSet.count.Goals as goal
use Rattle.sf_base.proofs.byte_set.ByteSet.count.Goals.{then-contains, else-contains}

pub loop-b-init : goal.loop-b-init
loop-b-init c = record {
  few = omega arith;
  counted = sym (count_below-zero (has_byte c.args.self.now));
}

pub loop-b-preserved : goal.loop-b-preserved
loop-b-preserved c =
    let more = count_below-more (has_byte c.args.self.now) c.loop-b.b in
    let before = c.loop-b.invariant in
    elim c.if-contains.branch [
      | then-contains w ↦ (let e = sym c.contains.ensures ∙ w.if-contains.true in let now = rw e at more in
          record { few = omega (arith, w.count-is, before.few); counted = omega (arith, w.count-is, before.counted, now) })
      | else-contains w ↦ (let e = sym c.contains.ensures ∙ w.if-contains.false in let now = rw e at more in
          record { few = omega (arith, w.count-is, before.few); counted = omega (arith, w.count-is, before.counted, now) })
    ]

pub returns-clause-sized : goal.returns-clause-sized
returns-clause-sized c = rw (← c.self.view_is) (length-marks_of c.self.inside.words)
