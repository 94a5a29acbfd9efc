use Rattle.std.proofs.Common.{◌+◌, Option, subst}
use Rattle.std.specs.Prelude.{IfSome}
use Rattle.sf_run.specs.declared.directive.Ended.{Ended}
use Rattle.sf_run.specs.Pieces.{EndsAtOnce}
use Rattle.sf_run.proofs.AtOnce.{ends_passing, free_of, passes_within}
use Rattle.sf_run.proofs.quick.pass_so.Goals as goal

pub give-requires-clause-free : goal.give-requires-clause-free
give-requires-clause-free g c =
    let e : Ended = c.in_ok-ended.ended in
    let d = c.args.directive.now in
    let own : EndsAtOnce d c.args.used c.args.piece.now e = subst
    (λ (o : Option Ended). IfSome o (EndsAtOnce d c.args.used c.args.piece.now)) c.in_ok-ended.was c.requires.ends in
    free_of g.S.Store.slots e.finished d (g.S.Store.kept c.args.store.now).values own.fits.given c.requires.free

pub returns-clause-passes : goal.returns-clause-passes
returns-clause-passes g c = λ proper.
    let e : Ended = c.in_ok-ended.ended in
    let d = c.args.directive.now in
    let own : EndsAtOnce d c.args.used c.args.piece.now e = subst
    (λ (o : Option Ended). IfSome o (EndsAtOnce d c.args.used c.args.piece.now)) c.in_ok-ended.was c.requires.ends in
    let stores = c.in_ok-_stores._stores in
    let old = g.S.Store.kept c.args.store.now in
    let new = g.S.Store.kept c.give.new.store in
    ends_passing d c.args.used c.args.piece.now (e.before + e.item) old new
    (stores, passes_within d c.args.used c.args.piece.now e stores old new proper own c.in_ok-_stores.ensures.gives)
