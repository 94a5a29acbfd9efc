use Rattle.std.proofs.Common.{◌≡◌, ◌-◌, ◌<◌, ◌≤◌, slice_index_or, sym, take, subst, arith}
use Rattle.sf_item.specs.Wholes.{ReadsIn}
use Rattle.sf_item.proofs.Readings.{decimal_value, decimal_read}
use Rattle.sf_item.proofs.Wholes.{ten_more, tens}
use Rattle.sf_item.proofs.whole.further_digits.Goals as goal

module _ (c : goal.Else-b-gt57) where
  at_most : c.loop-i.number < 1000000000000000000
  at_most =
      let below = c.loop-i-test.true in
      let most = tens c.loop-i.i (let least = c.min-end.ensures in omega (arith, below, least)) in
      let small = c.loop-i.invariant.small in
      omega (arith, most, small)

pub overflow_mul-number : goal.overflow_mul-number
overflow_mul-number c = let small = at_most c in omega (arith, small)

pub overflow_add-number : goal.overflow_add-number
overflow_add-number c = let small = at_most c in omega (arith, small, c.if-b-gt57.false)

pub loop-i-preserved : goal.loop-i-preserved
loop-i-preserved c =
    let b = slice_index_or c.args.piece.now c.loop-i.i 0 in
    let value = decimal_value b c.if-b-lt48.false c.if-b-gt57.false in
    let below = c.loop-i-test.true in
    let least = c.min-end.ensures in
    record {
      read = λ numeral sign.
          decimal_read numeral sign c.args.piece.now c.loop-i.i 0 c.loop-i.number (b - 48) (omega (arith, below, least, c.requires))
          (omega (arith, value, c.if-b-gt57.false)) (sym value) (c.loop-i.invariant.read numeral sign);
      small = ten_more c.loop-i.i c.loop-i.number (b - 48) c.loop-i.invariant.small (omega (arith, c.if-b-gt57.false));
    }

pub returns-clause-read : goal.returns-clause-read
returns-clause-read c =
    let least = c.min-end.ensures in
    let end : c.loop-i.i ≤ c.min-end.result = c.loop-i.auto.i-end (omega (arith, c.requires.first, c.requires.eight, least)) in
    let all : c.loop-i.i ≡ c.min-end.result = omega (arith, c.loop-i-test.false, end) in
    subst (λ n. ReadsIn 10 0 (take n c.args.piece.now) c.loop-i.number) all c.loop-i.invariant.read
