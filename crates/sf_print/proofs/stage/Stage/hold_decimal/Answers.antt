use Rattle.std.proofs.Common.{arith}
use Rattle.sf_print.proofs.DigitLemmas.FourDigits.{length_at_most}
use Rattle.sf_print.proofs.stage.Stage.hold_decimal.Goals as goal

pub write_decimal-self-requires-clause-digits : goal.write_decimal-self-requires-clause-digits
write_decimal-self-requires-clause-digits c = omega (arith, length_at_most c.args.number c.ranges.number.fits)
