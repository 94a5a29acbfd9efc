use Rattle.std.proofs.Common.{◌∙◌, map, ap, sym}
use Rattle.sf_base.specs.Data.{datum_of}
use Rattle.sf_print.specs.Printed.{unit_text, text_or_none}
use Rattle.sf_print.proofs.Staging.{Puts-same}
use Rattle.sf_print.proofs.print.put_unit.Goals as goal

pub returns-in-Byte-clause-text : goal.returns-in-Byte-clause-text
returns-in-Byte-clause-text g c =
    Puts-same _ _ c.args.stage.now c.put_byte.new.stage _ (unit_text (map datum_of c.args.values.now) c.args.unit.now) c.put_byte.result
    (ap (unit_text (map datum_of c.args.values.now)) (sym c.in-Byte.is)) c.put_byte.ensures.text

pub returns-in-Some-clause-text : goal.returns-in-Some-clause-text
returns-in-Some-clause-text g c =
    let values = map datum_of c.args.values.now in
    Puts-same _ _ c.args.stage.now c.put_value.new.stage _ (unit_text values c.args.unit.now) c.put_value.result
    (ap (text_or_none c.in-Conv.conv) (sym c.in-Some.ensures) ∙ ap (unit_text values) (sym c.in-Conv.is)) c.put_value.ensures.text
