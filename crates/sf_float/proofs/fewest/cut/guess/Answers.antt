use Rattle.std.proofs.Common.{◌+◌, ◌-◌, ◌^◌, ◌<◌, refl, arith, pow_pos}
use lib.Dec.{lit<}
use Rattle.sf_float.proofs.Limbs.{power_pos}
use Rattle.sf_float.proofs.Powers.{guess_from, guess_below, size_from, size_below, few_digits}
use Rattle.sf_float.proofs.fewest.cut.guess.Goals as goal

pub returns-clause-from : goal.returns-clause-from
returns-clause-from c =
    let z = c.args.size in
    let r = c.ilog2 in
    let t = r.result + z.up + 1074 - z.down in
    let few : r.result < 53 = few_digits r.result z.m r.ensures.power_le c.requires.1 in
    size_from t r.result z.up z.down z.m (2 ^ 1074) (10 ^ 400) _ 0 (omega (arith, c.requires.3)) refl (pow_pos 1074)
    (guess_from t (omega (arith, c.requires.2))) r.ensures.power_le

pub returns-clause-below : goal.returns-clause-below
returns-clause-below c =
    let z = c.args.size in
    let r = c.ilog2 in
    let t = r.result + z.up + 1074 - z.down in
    let few : r.result < 53 = few_digits r.result z.m r.ensures.power_le c.requires.1 in
    size_below t r.result z.up z.down z.m (2 ^ 1074) (10 ^ 400) 0 _ (omega (arith, c.requires.3)) refl (pow_pos 1074)
    (power_pos 10 400 (lit< tt)) (guess_below t (omega (arith, c.requires.2))) r.ensures.next_power_gt
