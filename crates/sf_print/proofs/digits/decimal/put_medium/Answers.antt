use Rattle.std.proofs.Common.{arith}
use Rattle.sf_print.proofs.DigitLemmas.FourDigits.{behind, decimal_three, length_by_three}
use Rattle.sf_print.proofs.digits.decimal.put_medium.Goals as goal

pub put_short-end-requires : goal.put_short-end-requires
put_short-end-requires c = (
  omega arith,
  omega (arith, length_by_three c.args.number (omega (arith, c.if-number-lt1000000.false)) (omega arith)),
)

pub put_three-requires : goal.put_three-requires
put_three-requires c = (
  omega arith,
  omega (
    arith,
    length_by_three c.args.number (omega (arith, c.if-number-lt1000000.false)) (omega arith),
    c.put_short-end.ensures.end,
  ),
)

pub returns-clause-end : goal.returns-clause-end
returns-clause-end c =
    omega (arith, length_by_three c.args.number (omega (arith, c.if-number-lt1000000.false)) (omega arith), c.put_short-end.ensures.end)

pub returns-clause-written : goal.returns-clause-written
returns-clause-written c = behind _ _ _ _ _ _ c.put_three.ensures c.put_short-end.ensures.written
    (decimal_three c.args.number (omega (arith, c.if-number-lt1000000.false)) (omega arith))
