use Rattle.std.proofs.Common.{refl, arith}
use Rattle.sf_float.proofs.fewest.laid.put_laid_out.Goals as goal

pub put_plain-requires-clause-range : goal.put_plain-requires-clause-range
put_plain-requires-clause-range c =
    let k = c.count_of-count in
    let few = k.ensures.below 18 (omega arith) c.requires.0 in
    let r = c.if-is_plain.ensures.range refl in
    (r.0, r.1, omega (arith, k.ensures.count.some), omega (arith, few))

pub put_raised-requires : goal.put_raised-requires
put_raised-requires c =
    let k = c.count_of-count in
    let few = k.ensures.below 18 (omega arith) c.requires.0 in
    (k.ensures.count.some, few, omega (arith, k.ensures.count.some), omega (arith, few, c.requires.1), c.requires.2)
