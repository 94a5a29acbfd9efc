use Rattle.std.proofs.Common.{◌∙◌, arith}
use Rattle.sf_format.proofs.Scanlists.{backward_single, backward_range_passed, length-after}
use Rattle.sf_format.proofs.scan.scanlist.backward.Goals as goal

pub loop-rest-preserved-then-dash-ne45 : goal.loop-rest-preserved-then-dash-ne45
loop-rest-preserved-then-dash-ne45 c = record {
  same = backward_single c.loop-rest.at c.loop-rest.rest.now c.in-len3-up.len_at_least c.if-dash-ne45.true ∙ c.loop-rest.invariant.same;
  whole = omega (arith, length-after 1 c.loop-rest.rest.now (omega arith), c.loop-rest.invariant.whole);
}

pub loop-rest-preserved : goal.loop-rest-preserved
loop-rest-preserved c = record {
  same =
      backward_range_passed c.loop-rest.at c.loop-rest.rest.now c.in-len3-up.len_at_least c.if-dash-ne45.false c.if-high-low.false
      ∙ c.loop-rest.invariant.same;
  whole = omega (arith, length-after 3 c.loop-rest.rest.now (omega arith), c.loop-rest.invariant.whole);
}
