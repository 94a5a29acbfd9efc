use Rattle.std.proofs.Common.{length, ap, sym, arith}
use Rattle.sf_base.specs.Data.{datum_of}
use Rattle.sf_print.specs.texts.Text.{value_text}
use Rattle.sf_print.proofs.TextLemmas.Reals.{real_value}
use Rattle.sf_print.proofs.Staging.{Puts-same}
use Rattle.sf_print.proofs.print.put_padded.Goals as goal

pub put_float-requires : goal.put_float-requires
put_float-requires g c =
    omega (arith, c.requires, ap length (real_value c.args.conv.now (datum_of c.args.value.now) c.in-Some.real (sym c.in-Some.ensures)))

pub returns-in-Some-clause-text : goal.returns-in-Some-clause-text
returns-in-Some-clause-text g c =
    Puts-same _ _ c.args.stage.now c.put_float.new.stage _ (value_text c.args.conv.now (datum_of c.args.value.now)) c.put_float.result
    (sym (real_value c.args.conv.now (datum_of c.args.value.now) c.in-Some.real (sym c.in-Some.ensures))) c.put_float.ensures.text

pub returns-clause-text : goal.returns-clause-text
returns-clause-text g c =
    Puts-same _ _ c.args.stage.now c.put_pieces.new.stage _ (value_text c.args.conv.now (datum_of c.args.value.now)) c.put_pieces.result
    c.value_pieces-pieces.ensures c.put_pieces.ensures.text
