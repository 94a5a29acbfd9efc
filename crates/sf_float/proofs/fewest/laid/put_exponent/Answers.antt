use Rattle.std.proofs.Common.{arith}
use Rattle.sf_float.proofs.fewest.laid.put_exponent.Goals as goal

pub put_digits-requires : goal.put_digits-requires
put_digits-requires c =
    let few =
    c.count_of.ensures.below 3 (omega arith) (omega (arith, c.saturating_sub.ensures, c.saturating_sub-2.ensures, c.requires.0)) in
    (omega arith, omega (arith, few, c.put-end.ensures.end, c.put_sign-end.ensures.end.1, c.requires.1))

pub returns-clause-end : goal.returns-clause-end
returns-clause-end c =
    let few =
    c.count_of.ensures.below 3 (omega arith) (omega (arith, c.saturating_sub.ensures, c.saturating_sub-2.ensures, c.requires.0)) in
    let e = c.put_digits.ensures.end in (
      omega (arith, e, c.put-end.ensures.end, c.put_sign-end.ensures.end.0),
      omega (arith, e, few, c.put-end.ensures.end, c.put_sign-end.ensures.end.1),
    )
