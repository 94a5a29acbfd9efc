use Rattle.std.proofs.Common.{arith}
use Rattle.sf_print.proofs.DigitLemmas.FourDigits.{length_below}
use Rattle.sf_print.proofs.digits.decimal.write_decimal.Goals as goal

pub put_short-requires : goal.put_short-requires
put_short-requires c = (
  c.if-number-lt1000000.true,
  omega (arith, length_below c.args.number (omega (arith, c.if-number-lt1000000.true))),
)

pub put_medium-requires : goal.put_medium-requires
put_medium-requires c = (
  c.if-number-lt1000000000.true,
  omega (arith, length_below c.args.number c.if-number-lt1000000000.true),
)
