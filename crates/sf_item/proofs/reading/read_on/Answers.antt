use Rattle.std.proofs.lemmas.Grind.{common_steps}
use Rattle.std.proofs.Common.{subst, arith}
use Rattle.sf_item.specs.Scan.{HasRead}
use Rattle.sf_item.proofs.Scanning.{integer_next, float_next}
use Rattle.sf_item.proofs.reading.read_on.Goals as goal

pub returns-in-Integer-clause-next : goal.returns-in-Integer-clause-next
returns-in-Integer-clause-next c = λ f h.
    rw c.in-Integer.is
    (integer_next c.in-Integer.numeral c.in-Integer.reached f c.args.b
    (subst (λ r. HasRead r f) c.in-Integer.is h) c.advance.result c.advance.new.reached
    c.advance.ensures.next)

pub returns-in-Set-clause-next : goal.returns-in-Set-clause-next
returns-in-Set-clause-next c = grind (arith, common_steps)

pub returns-in-Text-clause-next : goal.returns-in-Text-clause-next
returns-in-Text-clause-next c = grind (arith, common_steps)

pub returns-in-Float-clause-next : goal.returns-in-Float-clause-next
returns-in-Float-clause-next c f h =
    let read = subst (λ r. HasRead r f) c.in-Float.is h in
    rw c.in-Float.is (float_next c.in-Float.field-0 c.in-Float.scan c.step.new.self f c.args.b c.step.result read c.step.ensures.next)
