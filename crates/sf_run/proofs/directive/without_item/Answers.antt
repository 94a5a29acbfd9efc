use Rattle.std.proofs.Common.{[], ◌∷◌, ◌∙◌, ap, refl}
use Rattle.sf_item.specs.Tests.{can_take}
use Rattle.sf_run.proofs.Pieces.{none_taken, some_first}
use Rattle.sf_run.proofs.directive.without_item.Goals as goal

pub returns-clause-answers : goal.returns-clause-answers
returns-clause-answers c proper ink n =
    let k = c.args.conversion.now in
    let first = some_first c.args.piece.now c.in_ok-first.first.now c.in_ok-first.ensures.value in
    let none = c.if-not-begins_none.false in
    none_taken k c.requires n c.args.piece.now c.finish_nothing.result proper.0 (c.begins_none.ensures.item none) first.0 (ink first.0)
    (ap (λ b. can_take k (b ∷ [])) first.1 ∙ c.begins_none.ensures.none none k refl) (c.finish_nothing.ensures.end [])
