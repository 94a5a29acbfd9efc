use Rattle.std.proofs.Common.{◌++◌, ap, ◌∙◌}
use Rattle.sf_print.proofs.Staging.{failed, moved, empty_held, all_taken}
use Rattle.sf_print.proofs.handing.hand_over.Goals as goal

pub returns-in-Ok-clause-text : goal.returns-in-Ok-clause-text
returns-in-Ok-clause-text g c =
    let none = empty_held c.args.stage.now c.requires.empty in
    moved _ _ _ _ _ _ c.args.piece.now c.args.piece.now (all_taken c.args.piece.now _ _ none none) c.in-Ok.ensures.took.0
    c.in-Ok.ensures.took.1

pub returns-in-Err-clause-text : goal.returns-in-Err-clause-text
returns-in-Err-clause-text g c =
    let (front, rest, is, known, count, more) = c.in-Err.ensures.took in
    failed _ _ _ _ _ c.args.piece.now front rest (ap (λ t. t ++ c.args.piece.now) (empty_held c.args.stage.now c.requires.empty) ∙ is)
    known count more
