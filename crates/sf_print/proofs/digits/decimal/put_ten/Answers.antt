use Rattle.std.proofs.Common.{arith}
use Rattle.sf_print.proofs.DigitLemmas.FourDigits.{behind, decimal_ten, length_ten}
use Rattle.sf_print.proofs.digits.decimal.put_ten.Goals as goal

pub write_pair-requires : goal.write_pair-requires
write_pair-requires c = (
  omega (arith, c.requires.below),
  omega (arith, length_ten c.args.number c.requires.least c.requires.below, c.requires.room),
)

pub put_eight-requires : goal.put_eight-requires
put_eight-requires c = (
  omega arith,
  omega (arith, length_ten c.args.number c.requires.least c.requires.below, c.requires.room),
)

pub returns-clause-end : goal.returns-clause-end
returns-clause-end c = omega (arith, length_ten c.args.number c.requires.least c.requires.below)

pub returns-clause-written : goal.returns-clause-written
returns-clause-written c = behind _ _ _ _ _ _ c.put_eight.ensures c.write_pair.ensures
    (decimal_ten c.args.number c.requires.least c.requires.below)
