use Rattle.std.proofs.Common.{◌++◌, ◌+◌, take, drop, map, get_or, ap, ◌∙◌, arith}
use Rattle.std.specs.List.{flat_map}
use Rattle.std.proofs.lemmas.List.{take_all}
use Rattle.std.proofs.lemmas.List.Folds.{length-flat_map-take}
use Rattle.sf_base.specs.Data.{datum_of}
use Rattle.sf_format.specs.declared.unit.Unit.TheVariants as unit
use Rattle.sf_print.specs.Printed.{unit_text, printed}
use Rattle.sf_print.proofs.TextLemmas.Joined.{flat_map_more}
use Rattle.sf_print.proofs.Staging.{Stops-middle, handed_on, flat_map_cut, length_more, PutsAll-same, PutsAll-then}
use Rattle.sf_print.proofs.print.put_units.Goals as goal

pub put_unit-requires : goal.put_unit-requires
put_unit-requires g c =
    let l = c.loop-unit in
    omega (
      arith,
      c.requires,
      l.invariant.count,
      length-flat_map-take
          (unit_text (map datum_of c.args.values.now)) c.args.units.now l.unit-index (unit.Byte 0) c.loop-unit-test.true,
    )

pub returns-in_err-put_unit-clause-text : goal.returns-in_err-put_unit-clause-text
returns-in_err-put_unit-clause-text g c =
    let l = c.loop-unit in
    let f = unit_text (map datum_of c.args.values.now) in
    let units = c.args.units.now in
    handed_on _ _ c.args.stage.now c.put_unit.new.stage (flat_map f units) c.from_residual.result _ c.from_residual.ensures.1
    (Stops-middle _ _ _ _ _ _ _ _ (flat_map f (take l.unit-index units)) (f (get_or units l.unit-index (unit.Byte 0)))
    (flat_map f (drop (l.unit-index + 1) units)) (flat_map f units) l.invariant.text c.in_err-put_unit.ensures.text
    (flat_map_cut f units l.unit-index (unit.Byte 0) c.loop-unit-test.true))

pub loop-unit-preserved : goal.loop-unit-preserved
loop-unit-preserved g c =
    let l = c.loop-unit in
    let f = unit_text (map datum_of c.args.values.now) in
    let units = c.args.units.now in
    record {
      sound = c.in_ok-put_unit.ensures.failures ∙ l.invariant.sound;
      text = PutsAll-same _ _ _ _ _ _ (flat_map f (take l.unit-index units) ++ f (get_or units l.unit-index (unit.Byte 0))) _
          (flat_map_more f units l.unit-index (unit.Byte 0) c.loop-unit-test.true)
          (PutsAll-then _ _ _ _ _ _ _ _ _ _ _ l.invariant.text c.in_ok-put_unit.ensures.text);
      count = omega (
        arith,
        l.invariant.count,
        c.in_ok-put_unit.ensures.count,
        length_more f units l.unit-index (unit.Byte 0) c.loop-unit-test.true,
      );
    }

pub returns-clause-text : goal.returns-clause-text
returns-clause-text g c =
    PutsAll-same _ _ _ _ _ _ _ _ (ap (λ us. printed us (map datum_of c.args.values.now))
    (take_all c.loop-unit.unit-index c.args.units.now (omega arith))) c.loop-unit.invariant.text
