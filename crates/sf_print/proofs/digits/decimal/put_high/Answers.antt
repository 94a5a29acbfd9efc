use Rattle.std.proofs.Common.{arith}
use Rattle.sf_print.proofs.DigitLemmas.FourDigits.{behind, decimal_eight, length_eight}
use Rattle.sf_print.proofs.digits.decimal.put_high.Goals as goal

pub put_medium-end-requires : goal.put_medium-end-requires
put_medium-end-requires c = (
  omega arith,
  omega (arith, length_eight c.args.number (omega (arith, c.if-number-lt1000000000.false)) (omega (arith, c.ranges.number.fits))),
)

pub put_eight-requires : goal.put_eight-requires
put_eight-requires c = (
  omega arith,
  omega (
    arith,
    length_eight c.args.number (omega (arith, c.if-number-lt1000000000.false)) (omega (arith, c.ranges.number.fits)),
    c.put_medium-end.ensures.end,
  ),
)

pub returns-clause-end : goal.returns-clause-end
returns-clause-end c =
    omega (
      arith,
      length_eight c.args.number (omega (arith, c.if-number-lt1000000000.false)) (omega (arith, c.ranges.number.fits)),
      c.put_medium-end.ensures.end,
    )

pub returns-clause-written : goal.returns-clause-written
returns-clause-written c = behind _ _ _ _ _ _ c.put_eight.ensures c.put_medium-end.ensures.written
    (decimal_eight c.args.number (omega (arith, c.if-number-lt1000000000.false)) (omega (arith, c.ranges.number.fits)))
