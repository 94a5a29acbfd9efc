use Rattle.std.proofs.Common.{◌≡◌, ◌-◌, ◌*◌, ◌^◌, ◌<◌, refl, arith}
use Rattle.sf_float.proofs.FewestLemmas.Firsts.{twice_below}
use Rattle.sf_float.proofs.Limbs.{power_pos}
use Rattle.sf_float.proofs.fewest.cut.twice.Goals as goal

pub twice_short-requires-clause-most : goal.twice_short-requires-clause-most
twice_short-requires-clause-most c =
    let z = c.args.size in
    let s = c.if-is_short.ensures refl in
    let j : c.args.first - 416 ≡ 0 = omega (arith, s.2) in
    let d : 0 < 2 ^ z.down = power_pos 2 z.down (omega arith) in
    let l = twice_below (z.m * 2 ^ z.up) (2 ^ z.down) c.args.first d c.requires.from in
    let m : 2 * (z.m * 2 ^ 0 * 10 ^ (416 - c.args.first)) < 4 * 10 ^ 17 * (2 ^ z.down * 10 ^ 0) = rw (s.0, j) at l in
    omega (arith, m, d)
