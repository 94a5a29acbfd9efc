use Rattle.std.proofs.Common.{[], ◌∷◌}
use Rattle.sf_print.proofs.Staging.{stays, handed_on, Stops-front, PutsAll-then}
use Rattle.sf_print.proofs.handing.put_byte.Goals as goal

pub returns-in_err-flush-clause-text : goal.returns-in_err-flush-clause-text
returns-in_err-flush-clause-text g c =
    handed_on _ _ c.args.stage.now c.flush.new.stage (c.args.byte ∷ []) c.from_residual.result _ c.from_residual.ensures.1
    (Stops-front _ _ _ _ _ [] (c.args.byte ∷ []) c.in_err-flush.ensures.text)

pub returns-clause-text : goal.returns-clause-text
returns-clause-text g c =
    PutsAll-then _ _ _ _ _ _ _ _ _ [] (c.args.byte ∷ []) c.in_ok-flush.ensures.text
    (stays _ _ _ _ _ _ c.hold_byte-2.ensures.held c.hold_byte-2.ensures.written)
