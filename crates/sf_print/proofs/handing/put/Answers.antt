use Rattle.std.proofs.Common.{[]}
use Rattle.sf_print.proofs.Staging.{stays, handed_on, Stops-front, PutsAll-then, Puts-then}
use Rattle.sf_print.proofs.handing.put.Goals as goal

pub returns-then-piece-stage-clause-text : goal.returns-then-piece-stage-clause-text
returns-then-piece-stage-clause-text g c = stays _ _ _ _ _ _ c.hold.ensures.held c.hold.ensures.written

pub returns-in_err-flush-clause-text : goal.returns-in_err-flush-clause-text
returns-in_err-flush-clause-text g c =
    handed_on _ _ c.args.stage.now c.flush.new.stage c.args.piece.now c.from_residual.result _ c.from_residual.ensures.1
    (Stops-front _ _ _ _ _ [] c.args.piece.now c.in_err-flush.ensures.text)

pub returns-then-piece-gt-STAGE_BYTES-clause-text : goal.returns-then-piece-gt-STAGE_BYTES-clause-text
returns-then-piece-gt-STAGE_BYTES-clause-text g c =
    Puts-then _ _ _ c.args.stage.now c.flush.new.stage c.hand_over.new.stage [] c.args.piece.now c.hand_over.result
    c.in_ok-flush.ensures.text c.hand_over.ensures.text

pub returns-clause-text : goal.returns-clause-text
returns-clause-text g c =
    PutsAll-then _ _ _ _ _ _ _ _ _ [] c.args.piece.now c.in_ok-flush.ensures.text
    (stays _ _ _ _ _ _ c.hold-2.ensures.held c.hold-2.ensures.written)
