use Rattle.std.proofs.Common.{◌≡◌, ◌<◌, ◌≤◌, take, subst, arith}
use Rattle.sf_item.specs.Wholes.{ReadsIn}
use Rattle.sf_item.proofs.Wholes.{hex_read, sixteen_more, sixteens}
use Rattle.sf_item.proofs.whole.hex_digits.Goals as goal

module _ (c : goal.Else-digit-ge16) where
  at_most : c.loop-i.number < 1152921504606846976
  at_most =
      let below = c.loop-i-test.true in
      let most = sixteens c.loop-i.i (let least = c.min-most.ensures in omega (arith, below, least)) in
      let small = c.loop-i.invariant.small in
      omega (arith, most, small)

pub overflow_mul-number : goal.overflow_mul-number
overflow_mul-number c = let small = at_most c in omega (arith, small)

pub overflow_add-number : goal.overflow_add-number
overflow_add-number c = let small = at_most c in omega (arith, small, c.if-digit-ge16.false)

pub loop-i-preserved : goal.loop-i-preserved
loop-i-preserved c =
    let value = c.value_of-digit.ensures in
    let low = c.if-digit-ge16.false in
    let below = c.loop-i-test.true in
    let least = c.min-most.ensures in
    record {
      read = λ numeral sign.
          hex_read numeral sign c.args.piece.now c.loop-i.i 0 c.loop-i.number c.value_of-digit.result (omega (arith, below, least))
          (omega (arith, value, low)) value (c.loop-i.invariant.read numeral sign);
      small = sixteen_more c.loop-i.i c.loop-i.number c.value_of-digit.result c.loop-i.invariant.small (omega (arith, low));
    }

pub returns-clause-read : goal.returns-clause-read
returns-clause-read c =
    let within = c.requires.first in
    let few = c.requires.eight in
    let least = c.min-most.ensures in
    let end : c.loop-i.i ≤ c.min-most.result = c.loop-i.auto.i-end (omega (arith, within, few, least)) in
    let all : c.loop-i.i ≡ c.min-most.result = omega (arith, c.loop-i-test.false, end) in
    subst (λ n. ReadsIn 16 0 (take n c.args.piece.now) c.loop-i.number) all c.loop-i.invariant.read
