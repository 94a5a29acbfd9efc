use Rattle.std.proofs.Common.{[], map, sym, append-nil, arith}
use Rattle.std.specs.Option.{option_map}
use Rattle.sf_base.specs.Data.{datum_of}
use Rattle.sf_print.specs.Given.{given_printed}
use Rattle.sf_print.proofs.Staging.{all_written, front_written, PutsAll-then, Stops-middle}
use Rattle.sf_print.proofs.given.write_all.Goals as goal

pub returns-in-Err-clause-text : goal.returns-in-Err-clause-text
returns-in-Err-clause-text g c =
    front_written _ _ c.new-stage.result _ (given_printed c.args.units.now (map (option_map datum_of) c.args.given.now))
    c.new-stage.ensures.len c.new-stage.ensures.written c.in-Err.ensures.text

pub returns-in-Ok-flush-clause-text : goal.returns-in-Ok-flush-clause-text
returns-in-Ok-flush-clause-text g c =
    let text = given_printed c.args.units.now (map (option_map datum_of) c.args.given.now) in (
      all_written _ _ c.new-stage.result c.flush.new.stage text c.new-stage.ensures.len c.new-stage.ensures.written
          c.in-Ok-flush.ensures.len
          (PutsAll-then _ _ _ _ _ _ _ _ _ text [] c.in-Ok.ensures.text c.in-Ok-flush.ensures.text),
      omega (arith, c.in-Ok-flush.ensures.count, c.in-Ok.ensures.count, c.new-stage.ensures.len, c.new-stage.ensures.written),
    )

pub returns-in-Err-flush-clause-text : goal.returns-in-Err-flush-clause-text
returns-in-Err-flush-clause-text g c =
    let text = given_printed c.args.units.now (map (option_map datum_of) c.args.given.now) in
    front_written _ _ c.new-stage.result _ text c.new-stage.ensures.len c.new-stage.ensures.written
    (Stops-middle _ _ _ _ _ _ _ _ text [] [] text c.in-Ok.ensures.text c.in-Err-flush.ensures.text (sym (append-nil text)))
