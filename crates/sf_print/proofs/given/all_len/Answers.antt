use Rattle.std.proofs.Common.{map, arith}
use Rattle.std.proofs.lemmas.List.Folds.{length-flat_map-take}
use Rattle.std.specs.Option.{option_map}
use Rattle.sf_base.specs.Data.{datum_of}
use Rattle.sf_format.specs.declared.unit.Unit.TheVariants as unit
use Rattle.sf_print.specs.Given.{given_unit}
use Rattle.sf_print.proofs.Staging.{length_more}
use Rattle.sf_print.proofs.given.all_len.Goals as goal

pub returns-then-sum-most : goal.returns-then-sum-most
returns-then-sum-most c =
    omega (
      arith,
      c.loop-unit.invariant,
      length-flat_map-take (given_unit (map (option_map datum_of) c.args.given.now)) c.args.units.now
          c.loop-unit.unit-index (unit.Byte 0) c.loop-unit-test.true,
    )

pub loop-unit-preserved : goal.loop-unit-preserved
loop-unit-preserved c =
    let l = c.loop-unit in
    let text = given_unit (map (option_map datum_of) c.args.given.now) in
    omega (
      arith,
      l.invariant,
      c.given_len-sum.ensures,
      length_more text c.args.units.now l.unit-index (unit.Byte 0) c.loop-unit-test.true,
    )
