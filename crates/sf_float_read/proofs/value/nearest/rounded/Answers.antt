use Rattle.std.proofs.Common.{Bool, arith, subst}
use Rattle.sf_float.specs.Quotient.{IsQuotient}
use Rattle.sf_float_read.proofs.ValueLemmas.Cutting.{rounded_down, rounded_up, lost_up, tie_even}
use Rattle.sf_float_read.proofs.value.nearest.rounded.Goals as goal

pub returns-then-rest-unit-clause-value : goal.returns-then-rest-unit-clause-value
returns-then-rest-unit-clause-value c n w W p = rounded_down n w c.args.m c.args.cut c.power-unit.result c.args.lost c.requires.0 W
    c.power-unit.ensures p c.if-rest-unit.true

pub returns-then-rest-unit-2-clause-value : goal.returns-then-rest-unit-2-clause-value
returns-then-rest-unit-2-clause-value c n w W p = rounded_up n w c.args.m c.args.cut c.power-unit.result c.args.lost c.requires.0 W
    c.power-unit.ensures p c.if-rest-unit-2.true

pub returns-then-lost-clause-value : goal.returns-then-lost-clause-value
returns-then-lost-clause-value c n w W p =
    lost_up n w c.args.m c.args.cut c.power-unit.result c.requires.0 W c.power-unit.ensures
    (subst (λ (l : Bool). IsQuotient n w c.args.m l) c.if-lost.true p) (omega (arith, c.if-rest-unit.false, c.if-rest-unit-2.false))

pub returns-clause-value : goal.returns-clause-value
returns-clause-value c n w W p =
    tie_even n w c.args.m c.args.cut c.power-unit.result c.requires.0 W c.power-unit.ensures
    (subst (λ (l : Bool). IsQuotient n w c.args.m l) c.if-lost.false p) (omega (arith, c.if-rest-unit.false, c.if-rest-unit-2.false))
