use Rattle.std.proofs.Common.{◌^◌, ◌<◌, sym, arith, lt_of_lt_of_le}
use Rattle.std.proofs.Math.Nat.{pow-le-pow_right, div-eq_of_lt}
use lib.Dec.{lit<}
use Rattle.sf_float.proofs.fewest.laid.without.Goals as goal

pub returns-then-places-gt19 : goal.returns-then-places-gt19
returns-then-places-gt19 c =
    let k : 2 ^ 64 < 10 ^ 20 = lit< tt in
    let l : c.args.n < 10 ^ c.args.places = lt_of_lt_of_le (omega (arith, c.ranges.n.fits, k))
    (pow-le-pow_right (lit< tt) {i = 20} (omega (arith, c.if-places-gt19.true))) in
    sym (div-eq_of_lt l)
