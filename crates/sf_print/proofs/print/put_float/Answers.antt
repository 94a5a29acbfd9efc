use Rattle.sf_print.specs.texts.Floats.{real_text}
use Rattle.sf_print.proofs.Staging.{Puts-same}
use Rattle.sf_print.proofs.print.put_float.Goals as goal

pub returns-clause-text : goal.returns-clause-text
returns-clause-text g c =
    Puts-same _ _ c.args.stage.now c.put_pieces.new.stage _ (real_text c.args.conv.now c.args.real) c.put_pieces.result
    c.float_pieces-pieces.ensures c.put_pieces.ensures.text
