use Rattle.std.proofs.Common.{[], ap, subst, ◌∙◌, arith}
use Rattle.std.proofs.lemmas.List.{take_all}
use Rattle.sf_format.specs.declared.unit.Unit.TheVariants as unit
use Rattle.sf_print.specs.InPlace.{AreSuited, IsSuited, printed_by, text_by}
use Rattle.sf_print.proofs.InPlace.{all_more, more_written}
use Rattle.sf_print.proofs.in_place.write_units.Goals as goal

pub loop-unit-preserved : goal.loop-unit-preserved
loop-unit-preserved g c =
    let l = c.loop-unit in
    let found = g.V.Printables.value_of c.args.values.now in
    record {
      within = c.in_ok-end.ensures.within;
      written = more_written (text_by found) c.args.units.now l.unit-index (unit.Byte 0) c.loop-unit-test.true [] _ _
          l.invariant.written c.in_ok-end.ensures.written;
      suited = all_more (IsSuited found) c.args.units.now l.unit-index (unit.Byte 0) c.loop-unit-test.true l.invariant.suited
          c.in_ok-end.ensures.suited;
    }

pub returns-clause-written : goal.returns-clause-written
returns-clause-written g c =
    let l = c.loop-unit in
    l.invariant.written
    ∙ ap (printed_by (g.V.Printables.value_of c.args.values.now)) (take_all l.unit-index c.args.units.now (omega arith))

pub returns-clause-suited : goal.returns-clause-suited
returns-clause-suited g c =
    let l = c.loop-unit in
    subst (AreSuited (g.V.Printables.value_of c.args.values.now)) (take_all l.unit-index c.args.units.now (omega arith))
    l.invariant.suited
