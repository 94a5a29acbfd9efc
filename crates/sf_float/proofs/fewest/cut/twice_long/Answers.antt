use Rattle.std.proofs.Common.{◌*◌, ◌^◌, pow_pos}
use Rattle.sf_float.proofs.FewestLemmas.Firsts.{long_most}
use Rattle.sf_float.proofs.fewest.cut.twice_long.Goals as goal

pub value_of-requires : goal.value_of-requires
value_of-requires c =
    let z = c.args.size in
    let n = c.twice_in_limbs-n in
    long_most (z.m * 2 ^ z.up) (2 ^ z.down) c.args.first n.result.0 n.result.1 (pow_pos z.down) c.requires.from n.ensures

pub returns : goal.returns
returns c = rw c.value_of.ensures c.twice_in_limbs-n.ensures
