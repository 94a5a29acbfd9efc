use Rattle.std.proofs.Common.{map, arith}
use Rattle.std.proofs.lemmas.List.Folds.{length-flat_map-take}
use Rattle.sf_base.specs.Data.{datum_of}
use Rattle.sf_format.specs.declared.unit.Unit.TheVariants as unit
use Rattle.sf_print.specs.Printed.{unit_text}
use Rattle.sf_print.proofs.Staging.{length_more}
use Rattle.sf_print.proofs.print.units_len.Goals as goal

pub returns-then-sum-most : goal.returns-then-sum-most
returns-then-sum-most c =
    omega (
      arith,
      c.loop-unit.invariant,
      length-flat_map-take (unit_text (map datum_of c.args.values.now)) c.args.units.now
          c.loop-unit.unit-index (unit.Byte 0) c.loop-unit-test.true,
    )

pub loop-unit-preserved : goal.loop-unit-preserved
loop-unit-preserved c =
    omega (
      arith,
      c.loop-unit.invariant,
      c.unit_len-sum.ensures,
      length_more
          (unit_text (map datum_of c.args.values.now)) c.args.units.now c.loop-unit.unit-index (unit.Byte 0) c.loop-unit-test.true,
    )
