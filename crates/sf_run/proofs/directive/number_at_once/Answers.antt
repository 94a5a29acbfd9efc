use Rattle.sf_run.proofs.Pieces.{ended_behind}
use Rattle.sf_run.proofs.directive.number_at_once.Goals as goal

pub returns : goal.returns
returns c k is n =
    let skip = c.space_before-before.ensures in
    let own = c.in_ok-ended.ensures in
    ended_behind k (λ _. is.plain) n c.space_before-before.result c.args.piece.now _ c.in_ok-ended.ended c.split_at.ensures.back skip.within
    (λ j low. rw is.shape (skip.white j low)) (λ low. rw is.shape (skip.next low)) own.before
    (λ sound. own.answers k is sound.0) (own.fits k is)
