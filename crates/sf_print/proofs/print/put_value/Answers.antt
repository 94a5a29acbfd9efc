use Rattle.std.proofs.Common.{sym}
use Rattle.sf_base.specs.Data.{datum_of}
use Rattle.sf_print.specs.texts.Text.{value_text}
use Rattle.sf_print.proofs.Staging.{Puts-same}
use Rattle.sf_print.proofs.print.put_value.Goals as goal

pub returns-in-Some-clause-text : goal.returns-in-Some-clause-text
returns-in-Some-clause-text g c =
    Puts-same _ _ c.args.stage.now c.put_number.new.stage _ (value_text c.args.conv.now (datum_of c.args.value.now)) c.put_number.result
    (sym c.in-Some.ensures.text) c.put_number.ensures.text

pub returns-in-Some-plain_bytes-clause-text : goal.returns-in-Some-plain_bytes-clause-text
returns-in-Some-plain_bytes-clause-text g c =
    Puts-same _ _ c.args.stage.now c.put.new.stage _ (value_text c.args.conv.now (datum_of c.args.value.now)) c.put.result
    (sym c.in-Some-plain_bytes.ensures.text) c.put.ensures.text
