use Rattle.std.proofs.Common.{◌∙◌, map, ap, sym}
use Rattle.std.specs.Option.{option_map}
use Rattle.sf_base.specs.Data.{datum_of}
use Rattle.sf_print.specs.Given.{given_or_none, given_unit}
use Rattle.sf_print.proofs.Staging.{Puts-same}
use Rattle.sf_print.proofs.given.put_given.Goals as goal

pub returns-in-Byte-clause-text : goal.returns-in-Byte-clause-text
returns-in-Byte-clause-text g c =
    let given = map (option_map datum_of) c.args.given.now in
    Puts-same _ _ c.args.stage.now c.put_byte.new.stage _ (given_unit given c.args.unit.now) c.put_byte.result
    (ap (given_unit given) (sym c.in-Byte.is)) c.put_byte.ensures.text

pub returns-in-Some-clause-text : goal.returns-in-Some-clause-text
returns-in-Some-clause-text g c =
    let given = map (option_map datum_of) c.args.given.now in
    Puts-same _ _ c.args.stage.now c.put_one.new.stage _ (given_unit given c.args.unit.now) c.put_one.result
    (ap (given_or_none c.in-Conv.conv) (sym c.in-Some.ensures) ∙ ap (given_unit given) (sym c.in-Conv.is)) c.put_one.ensures.text
