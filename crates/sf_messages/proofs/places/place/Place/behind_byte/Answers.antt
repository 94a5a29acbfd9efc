use Rattle.std.proofs.Common.{◌++◌, ◌∷◌, [], subst, sym}
use Rattle.sf_messages.specs.places.Behind.{IsBehind}
use Rattle.sf_messages.proofs.PlaceLemmas.Stepping.{behind_end}
use Rattle.sf_messages.proofs.places.place.Place.behind_byte.Goals as goal

pub returns-then-byte-eq-LINE_END : goal.returns-then-byte-eq-LINE_END
returns-then-byte-eq-LINE_END c = λ before at.
    subst (λ b. IsBehind (before ++ b ∷ []) (record { line = c.saturating_add.result; column = 1 })) (sym c.if-byte-eq-LINE_END.true)
    (behind_end before c.args.self c.saturating_add.result c.saturating_add.ensures at)
