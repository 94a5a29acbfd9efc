use Rattle.std.proofs.Common.{arith, Some, None}
use Rattle.sf_item.specs.declared.reached.Reached.TheVariants.{Digits}
use Rattle.sf_item.proofs.Readings.{byte_read}
use Rattle.sf_item.proofs.integer.digit_front.Goals as goal

pub returns-then-not-add_byte-clause-stops : goal.returns-then-not-add_byte-clause-stops
returns-then-not-add_byte-clause-stops c = λ below numeral p shows.
    byte_read numeral c.args.piece.now c.loop-i.i p (Digits c.loop-i.digits) None (c.loop-i.invariant.read numeral p shows) below
    (c.if-not-add_byte.ensures.next numeral)

pub loop-i-preserved : goal.loop-i-preserved
loop-i-preserved c = record {
  read = λ numeral p shows.
      byte_read numeral c.args.piece.now c.loop-i.i p (Digits c.loop-i.digits) (Some (Digits c.add_byte.new.digits))
      (c.loop-i.invariant.read numeral p shows)
      c.loop-i-test.true (c.if-not-add_byte.ensures.next numeral);
  nothing = λ e. absurd (omega (arith, e));
}
