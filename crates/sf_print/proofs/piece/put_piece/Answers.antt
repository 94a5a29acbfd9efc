use Rattle.std.proofs.Common.{ap, sym}
use Rattle.sf_print.specs.texts.Runs.{piece_bytes}
use Rattle.sf_print.proofs.Staging.{Puts-same}
use Rattle.sf_print.proofs.piece.put_piece.Goals as goal

pub returns-in-Run-clause-text : goal.returns-in-Run-clause-text
returns-in-Run-clause-text g c =
    Puts-same _ _ c.args.stage.now c.put_run.new.stage _ (piece_bytes c.args.piece.now) c.put_run.result
    (ap piece_bytes (sym c.in-Run.is)) c.put_run.ensures.text

pub returns-in-Bytes-clause-text : goal.returns-in-Bytes-clause-text
returns-in-Bytes-clause-text g c =
    Puts-same _ _ c.args.stage.now c.put.new.stage _ (piece_bytes c.args.piece.now) c.put.result
    (ap piece_bytes (sym c.in-Bytes.is)) c.put.ensures.text
