use Rattle.std.proofs.Common.{◌∙◌}
use Rattle.sf_format.proofs.Magnitudes.{capped_more}
use Rattle.sf_format.proofs.opening.capped.Goals as goal

pub loop-b-preserved : goal.loop-b-preserved
loop-b-preserved c = c.min-value.ensures ∙ capped_more c.args.digits.now c.loop-b.b-index c.loop-b.value c.requires c.loop-b-test.true
    c.loop-b.invariant
