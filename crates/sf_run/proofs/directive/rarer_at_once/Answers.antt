use Rattle.std.proofs.Common.{sym, subst}
use Rattle.sf_format.specs.declared.directive.Directive.{Directive}
use Rattle.sf_run.specs.declared.directive.Ended.{Ended}
use Rattle.sf_run.specs.Pieces.{EndsAtOnce}
use Rattle.sf_run.proofs.Pieces.{ended_behind}
use Rattle.sf_run.proofs.directive.rarer_at_once.Goals as goal

pub returns : goal.returns
returns c n =
    let skip = c.skipped-before.ensures in
    let own = c.in_ok-ended.ensures in
    let r = c.in_ok-ended.ended in
    let e : Ended = record { before = c.skipped-before.result; item = r.item; finished = r.finished } in
    subst (λ (d : Directive). EndsAtOnce d n c.args.piece.now e) (sym c.in-Conv.is)
    (ended_behind c.in-Conv.conversion (λ _. c.if-conversion.false) n c.skipped-before.result c.args.piece.now _ r c.split_at.ensures.back
    skip.within
    skip.white skip.next own.before
    (λ sound. own.answers sound.0) own.fits)
