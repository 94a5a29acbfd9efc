use Rattle.std.proofs.Common.{arith}
use Rattle.std.proofs.lemmas.Fmt.{decimal_digit}
use Rattle.std.proofs.lemmas.List.{take_more_set}
use Rattle.sf_print.proofs.DigitLemmas.FourDigits.{decimal_of_three, decimal_two, length_one, length_three, length_two}
use Rattle.sf_print.proofs.digits.decimal.put_first.Goals as goal

pub bounds-buf-at : goal.bounds-buf-at
bounds-buf-at c = omega (arith, length_one c.args.number c.if-number-lt10.true)

pub returns-then-number-lt10-clause-end : goal.returns-then-number-lt10-clause-end
returns-then-number-lt10-clause-end c = omega (arith, length_one c.args.number c.if-number-lt10.true)

pub returns-then-number-lt10-clause-written : goal.returns-then-number-lt10-clause-written
returns-then-number-lt10-clause-written c =
    rw (decimal_digit c.args.number c.if-number-lt10.true) (take_more_set c.args.buf.now c.args.at _
    (omega (arith, length_one c.args.number c.if-number-lt10.true)))

pub write_pair-requires : goal.write_pair-requires
write_pair-requires c = (
  c.if-number-lt100.true,
  omega (arith, length_two c.args.number c.if-number-lt10.false c.if-number-lt100.true),
)

pub returns-then-number-lt100-clause-end : goal.returns-then-number-lt100-clause-end
returns-then-number-lt100-clause-end c = omega (arith, length_two c.args.number c.if-number-lt10.false c.if-number-lt100.true)

pub returns-then-number-lt100-clause-written : goal.returns-then-number-lt100-clause-written
returns-then-number-lt100-clause-written c =
    rw (decimal_two c.args.number c.if-number-lt10.false c.if-number-lt100.true) c.write_pair.ensures

pub put_three-requires : goal.put_three-requires
put_three-requires c = (c.requires.0, omega (arith, length_three c.args.number c.if-number-lt100.false c.requires.0))

pub returns-clause-end : goal.returns-clause-end
returns-clause-end c = omega (arith, length_three c.args.number c.if-number-lt100.false c.requires.0)

pub returns-clause-written : goal.returns-clause-written
returns-clause-written c = rw (decimal_of_three c.args.number c.if-number-lt100.false c.requires.0) c.put_three.ensures
