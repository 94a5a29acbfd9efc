use Rattle.std.proofs.Common.{◌+◌, List, not, drop, get_or, subst, ap, arith}
use Rattle.std.proofs.lemmas.List.{drop_more, drop_all, take_rest}
use Rattle.sf_format.specs.declared.unit.Unit.{Unit as PrintUnit}
use Rattle.sf_format.specs.declared.unit.Unit.TheVariants as unit
use Rattle.sf_arguments.specs.answer.Parts.{IsPart}
use Rattle.sf_arguments.proofs.AnswerLemmas.ScanTexts.{one_more, at_end}
use Rattle.sf_arguments.proofs.answer.answer.text_for.Goals as goal

pub loop-i-preserved : goal.loop-i-preserved
loop-i-preserved c =
    let us = c.args.units.now in
    let i = c.loop-i.i in
    let u = get_or us i (unit.Byte 0) in
    let numbered = not c.are_in_order-numbered.result in
    let (part, is, e) = c.in_ok-push_part.ensures in
    one_more numbered c.args.width us (drop i us) (drop (i + 1) us) u c.loop-i.text.items part c.push_part.new.to.items
    c.loop-i.invariant (drop_more us i (unit.Byte 0) c.loop-i-test.true)
    (subst (λ (l : List PrintUnit). IsPart numbered c.args.width u l part) (take_rest us (i + 1)) is) e

pub returns : goal.returns
returns c =
    let us = c.args.units.now in
    at_end (not c.are_in_order-numbered.result) c.args.width us (drop c.loop-i.i us) c.loop-i.text.items c.loop-i.invariant
    (drop_all c.loop-i.i us (omega (arith, c.loop-i-test.false))) _ (ap not c.are_in_order-numbered.ensures)
