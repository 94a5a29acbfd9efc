use Rattle.std.proofs.Common.{sym, subst}
use Rattle.sf_format.specs.declared.directive.Directive.{Directive}
use Rattle.sf_run.specs.declared.directive.Ended.{Ended}
use Rattle.sf_run.specs.Pieces.{EndsAtOnce}
use Rattle.sf_run.proofs.Pieces.{ended_behind}
use Rattle.sf_run.proofs.Stages.{no_width_plain}
use Rattle.sf_run.proofs.directive.real_at_once.Goals as goal

pub returns-clause-ends : goal.returns-clause-ends
returns-clause-ends c n =
    let skip = c.space_before-before.ensures in
    let own = c.in_ok-read.ensures in
    let k = c.in-Conv.conversion in
    let r = c.in_ok-read.read.ended in
    let e : Ended = record { before = c.space_before-before.result; item = r.item; finished = r.finished } in
    subst (λ (d : Directive). EndsAtOnce d n c.args.piece.now e) (sym c.in-Conv.is)
    (ended_behind k (λ sound. no_width_plain k sound.1 own.width) n c.space_before-before.result c.args.piece.now _ r
    c.split_at.ensures.back skip.within
    (λ j low. rw own.shape (skip.white j low)) (λ low. rw own.shape (skip.next low)) own.before own.answers own.fits)
