use Rattle.std.proofs.Common.{arith}
use Rattle.sf_print.proofs.DigitLemmas.FourDigits.{length_one, length_two, length_three, length_four_only, length_four, length_at_most}
use Rattle.sf_print.proofs.digits.decimal.decimal_len.Goals as goal

pub overflow_add-count : goal.overflow_add-count
overflow_add-count c = omega (
  arith,
  c.loop-left.invariant,
  length_at_most c.args.number c.ranges.number.fits,
  length_four c.loop-left.left c.loop-left-test.true c.loop-left.auto.left-fits.fits,
)

pub loop-left-preserved : goal.loop-left-preserved
loop-left-preserved c = omega (
  arith,
  c.loop-left.invariant,
  length_four c.loop-left.left c.loop-left-test.true
      c.loop-left.auto.left-fits.fits,
)

pub overflow_add-result : goal.overflow_add-result
overflow_add-result c = omega (
  arith,
  c.loop-left.invariant,
  length_at_most c.args.number c.ranges.number.fits,
  length_four_only c.loop-left.left (omega arith) (omega arith),
)

pub overflow_add-result-then-left-ge100 : goal.overflow_add-result-then-left-ge100
overflow_add-result-then-left-ge100 c = omega (
  arith,
  c.loop-left.invariant,
  length_at_most c.args.number c.ranges.number.fits,
  length_three c.loop-left.left (omega arith) (omega arith),
)

pub overflow_add-result-then-left-ge10 : goal.overflow_add-result-then-left-ge10
overflow_add-result-then-left-ge10 c = omega (
  arith,
  c.loop-left.invariant,
  length_at_most c.args.number c.ranges.number.fits,
  length_two c.loop-left.left (omega arith) (omega arith),
)

pub overflow_add-result-else-left-ge10 : goal.overflow_add-result-else-left-ge10
overflow_add-result-else-left-ge10 c = omega (
  arith,
  c.loop-left.invariant,
  length_at_most c.args.number c.ranges.number.fits,
  length_one c.loop-left.left (omega arith),
)

pub returns-then-left-ge1000 : goal.returns-then-left-ge1000
returns-then-left-ge1000 c = omega (arith, c.loop-left.invariant, length_four_only c.loop-left.left (omega arith) (omega arith))

pub returns-then-left-ge100 : goal.returns-then-left-ge100
returns-then-left-ge100 c = omega (arith, c.loop-left.invariant, length_three c.loop-left.left (omega arith) (omega arith))

pub returns-then-left-ge10 : goal.returns-then-left-ge10
returns-then-left-ge10 c = omega (arith, c.loop-left.invariant, length_two c.loop-left.left (omega arith) (omega arith))

pub returns-else-left-ge10 : goal.returns-else-left-ge10
returns-else-left-ge10 c = omega (arith, c.loop-left.invariant, length_one c.loop-left.left (omega arith))
