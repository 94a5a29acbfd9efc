use Rattle.std.proofs.Common.{refl, arith}
use Rattle.sf_read.proofs.Shapes.{takes_each}
use Rattle.sf_read.proofs.shape.check_missing.Goals as goal

pub returns-clause-same : goal.returns-clause-same
returns-clause-same g c =
    let count = c.destinations-before-end.ensures.count in (
      λ _. takes_each g.T.Row.optional c.args.format.now c.destinations-before-end.ensures.slots
          (λ slot low high. c.loop-before.invariant slot low (omega (arith, high, count, c.loop-before-test.false))),
      λ _. refl,
    )
