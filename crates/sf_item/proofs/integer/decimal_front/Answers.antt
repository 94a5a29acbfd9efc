use Rattle.std.proofs.Common.{◌-◌, rules, slice_index_or, sym, take, subst, arith}
use Rattle.sf_item.specs.Scan.{ReadsDecimal}
use Rattle.sf_item.proofs.Readings.{decimal_value, decimal_read}
use Rattle.sf_item.proofs.integer.decimal_front.Goals as goal

pub loop-i-preserved : goal.loop-i-preserved
loop-i-preserved c =
    let b = slice_index_or c.args.piece.now c.loop-i.i 0 in
    let value = decimal_value b c.if-b-lt48.false c.if-b-gt57.false in
    record {
      read = λ numeral sign.
          decimal_read numeral sign c.args.piece.now c.loop-i.i c.args.number.now c.loop-i.value (b - 48) c.loop-i-test.true
          (omega (arith, value, c.if-b-gt57.false)) (sym value) (c.loop-i.invariant.read numeral sign);
      nothing = λ e. absurd (omega (arith, e));
    }

pub returns-clause-read : goal.returns-clause-read
returns-clause-read c = subst (λ n. ReadsDecimal c.args.number.now (take n c.args.piece.now) c.loop-i.value)
    (omega (arith, c.loop-i-test.false, c.loop-i.auto.i-end)) (c.loop-i.invariant.read)

pub returns-then-b-lt48-clause-stops : goal.returns-then-b-lt48-clause-stops
returns-then-b-lt48-clause-stops c = search rules
