use Rattle.std.proofs.Common.{◌+◌, ◌-◌, ◌≤◌, arith}
use Rattle.sf_float.proofs.FewestLemmas.Texts.{plain_fits}
use Rattle.sf_float.proofs.fewest.laid.put_plain.Goals as goal

pub overflow_mul-number : goal.overflow_mul-number
overflow_mul-number c =
    let r = c.requires.range in
    let k = c.args.last + c.max-decimals.result - 400 in
    let l : c.args.point - c.args.last + k ≤ 18 = omega (arith, r.1, r.2, r.3, c.max-decimals.ensures, c.saturating_sub.ensures) in
    rw c.ten_to.ensures.value (omega (arith, plain_fits c.args.n (c.args.point - c.args.last) k c.requires.digits l))
