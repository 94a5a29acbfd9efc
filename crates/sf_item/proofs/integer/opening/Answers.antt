use Rattle.std.proofs.Common.{arith, Some, None, inr}
use Rattle.std.proofs.lemmas.Grind.{common_steps}
use Rattle.sf_item.proofs.Readings.{byte_read}
use Rattle.sf_item.proofs.integer.opening.Goals as goal

pub returns-then-not-advance-clause-stops : goal.returns-then-not-advance-clause-stops
returns-then-not-advance-clause-stops c = λ below.
    inr (λ p shows.
    byte_read c.args.numeral c.args.piece.now c.loop-i.i p c.loop-i.reached None
    (c.loop-i.invariant.read p shows) below c.if-not-advance.ensures.next)

pub loop-i-preserved : goal.loop-i-preserved
loop-i-preserved c = record {
  read = λ p shows.
      byte_read c.args.numeral c.args.piece.now c.loop-i.i p c.loop-i.reached (Some c.advance.new.reached) (c.loop-i.invariant.read p shows)
      c.loop-i-test.true c.if-not-advance.ensures.next;
  nothing = λ e. absurd (omega (arith, e));
}

pub returns-clause-read : goal.returns-clause-read
returns-clause-read c = grind (arith, common_steps)
