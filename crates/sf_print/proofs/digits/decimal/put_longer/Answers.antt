use Rattle.std.proofs.Common.{arith}
use Rattle.sf_print.proofs.DigitLemmas.FourDigits.{behind, decimal_eight, length_eight}
use Rattle.sf_print.proofs.digits.decimal.put_longer.Goals as goal

pub put_high-end-requires : goal.put_high-end-requires
put_high-end-requires c = (
  omega arith,
  omega (arith, length_eight c.args.number (omega (arith, c.requires.0)) (omega (arith, c.ranges.number.fits))),
)

pub put_eight-requires : goal.put_eight-requires
put_eight-requires c = (
  omega arith,
  omega (
    arith,
    length_eight c.args.number (omega (arith, c.requires.0)) (omega (arith, c.ranges.number.fits)),
    c.put_high-end.ensures.end,
  ),
)

pub returns-clause-end : goal.returns-clause-end
returns-clause-end c =
    omega (
      arith,
      length_eight c.args.number (omega (arith, c.requires.0)) (omega (arith, c.ranges.number.fits)),
      c.put_high-end.ensures.end,
    )

pub returns-clause-written : goal.returns-clause-written
returns-clause-written c = behind _ _ _ _ _ _ c.put_eight.ensures c.put_high-end.ensures.written
    (decimal_eight c.args.number (omega (arith, c.requires.0)) (omega (arith, c.ranges.number.fits)))
