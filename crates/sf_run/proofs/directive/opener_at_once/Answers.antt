use Rattle.std.proofs.Common.{sym, subst}
use Rattle.sf_format.specs.declared.directive.Directive.{Directive}
use Rattle.sf_format.specs.declared.directive.Directive.TheVariants.{Opens}
use Rattle.sf_format.specs.declared.directive.Literal.{Literal}
use Rattle.sf_run.specs.declared.directive.Ended.{Ended}
use Rattle.sf_run.specs.declared.directive.Finished.{Finished}
use Rattle.sf_run.specs.Phases.{or_missing}
use Rattle.sf_run.specs.Pieces.{EndsAtOnce}
use Rattle.sf_run.proofs.Openers.{opener_ends}
use Rattle.sf_run.proofs.directive.opener_at_once.Goals as goal

pub returns : goal.returns
returns c n =
    let o = c.in-Opens.opener in
    let piece = c.args.piece.now in
    let e = c.in_ok-ended.ended in
    let missed : Ended = record { before = e.before; item = e.item; finished = or_missing e.finished } in
    subst (λ (d : Directive). EndsAtOnce d n piece (record { before = e.before; item = e.item; finished = c.missed_if_failed.result }))
    (sym c.in-Opens.is)
    (subst (λ (f : Finished). EndsAtOnce (Opens o) n piece (record { before = e.before; item = e.item; finished = f }))
    (sym c.missed_if_failed.ensures)
    (subst (λ (l : Literal). EndsAtOnce (Opens (record { literal = l; more = o.more })) n piece missed) (sym c.in-Byte.is)
    (opener_ends o.more c.in-Byte.due n piece e (c.in_ok-ended.ensures n))))
