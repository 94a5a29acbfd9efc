use Rattle.std.proofs.Common.{[], ◌∷◌, ◌++◌, ap, sym}
use Rattle.std.specs.Fmt.{decimal}
use Rattle.sf_print.specs.digits.Decimals.{minus}
use Rattle.sf_print.proofs.Staging.{stays, handed_on, Stops-front, PutsAll-then, PutsAll-same}
use Rattle.sf_print.proofs.handing.put_number.Goals as goal

pub returns-in_err-make_room-clause-text : goal.returns-in_err-make_room-clause-text
returns-in_err-make_room-clause-text g c =
    handed_on _ _ c.args.stage.now c.make_room.new.stage (minus c.args.negative ++ decimal c.args.magnitude) c.from_residual.result _
    c.from_residual.ensures.1
    (Stops-front _ _ _ _ _ [] (minus c.args.negative ++ decimal c.args.magnitude) c.in_err-make_room.ensures.text)

pub returns-then-negative-clause-text : goal.returns-then-negative-clause-text
returns-then-negative-clause-text g c =
    PutsAll-same _ _ _ _ _ _ (45 ∷ [] ++ decimal c.args.magnitude) _
    (ap (λ n. minus n ++ decimal c.args.magnitude) (sym c.if-negative.true))
    (PutsAll-then _ _ _ _ _ _ _ _ _ [] (45 ∷ [] ++ decimal c.args.magnitude) c.in_ok-make_room.ensures.text
    (PutsAll-then _ _ _ _ _ _ _ _ _ (45 ∷ []) (decimal c.args.magnitude)
    (stays _ _ _ _ _ _ c.hold_byte.ensures.held c.hold_byte.ensures.written)
    (stays _ _ _ _ _ _ c.hold_decimal.ensures.held c.hold_decimal.ensures.written)))

pub returns-clause-text : goal.returns-clause-text
returns-clause-text g c =
    PutsAll-same _ _ _ _ _ _ (decimal c.args.magnitude) _ (ap (λ n. minus n ++ decimal c.args.magnitude) (sym c.if-negative.false))
    (PutsAll-then _ _ _ _ _ _ _ _ _ [] (decimal c.args.magnitude) c.in_ok-make_room.ensures.text
    (stays _ _ _ _ _ _ c.hold_decimal-2.ensures.held c.hold_decimal-2.ensures.written))
