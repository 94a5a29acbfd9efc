use Rattle.std.proofs.Common.{ℕ, List}
use Rattle.sf_format.specs.declared.directive.Lead.TheVariants.{Any}
use Rattle.sf_run.proofs.Pieces.{ended_behind, item_if}
use Rattle.sf_run.proofs.directive.text_at_once.Goals as goal

pub returns : goal.returns
returns c k shape is n =
    let skip = c.space_before-before.ensures in
    let own = c.in_ok-ended.ensures in
    let rest : List ℕ = c.split_at.result.1.now in
    let item = item_if k.shape _ k.width rest c.text_item.result shape (c.text_item.ensures Any k.width is.width) in
    ended_behind k (λ _. is.plain) n c.space_before-before.result c.args.piece.now _ c.in_ok-ended.ended c.split_at.ensures.back skip.within
    (λ j low. rw shape (skip.white j low)) (λ low. rw shape (skip.next low)) own.before
    (λ sound. own.answers k is item sound.0) (own.fits k is item)
