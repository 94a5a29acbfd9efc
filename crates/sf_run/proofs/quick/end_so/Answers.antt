use Rattle.std.proofs.Common.{ℕ, ◌+◌, List, Option, arith, drop, refl, subst, take}
use Rattle.std.specs.Prelude.{IfSome}
use Rattle.sf_run.specs.declared.directive.EndedColumn.{EndedColumn}
use Rattle.sf_run.specs.Pieces.{EndsWithAll}
use Rattle.sf_run.proofs.AtOnce.{ends_giving_nothing, ends_passing, free_of, passes_with_all, sure_text}
use Rattle.sf_run.proofs.quick.end_so.Goals as goal

pub give-requires-clause-free : goal.give-requires-clause-free
give-requires-clause-free g c =
    let e : EndedColumn = c.in_ok-column.column in
    let d = c.args.directive.now in
    let own : EndsWithAll d c.args.used c.args.piece.now e = subst
    (λ (o : Option EndedColumn). IfSome o (EndsWithAll d c.args.used c.args.piece.now)) c.in_ok-column.was c.requires.ends in
    free_of g.S.Store.slots e.ended.finished d (g.S.Store.kept c.args.store.now).values own.fits.given c.requires.free

pub returns-in-Some-clause-ends : goal.returns-in-Some-clause-ends
returns-in-Some-clause-ends g c = λ sound.
    let e : EndedColumn = c.in_ok-column.column in
    let d = c.args.directive.now in
    let own : EndsWithAll d c.args.used c.args.piece.now e = subst
    (λ (o : Option EndedColumn). IfSome o (EndsWithAll d c.args.used c.args.piece.now)) c.in_ok-column.was c.requires.ends in
    let old = g.S.Store.kept c.args.store.now in
    let new = g.S.Store.kept c.give.new.store in
    ends_passing d c.args.used c.args.piece.now (e.ended.before + e.ended.item + e.after) old new
    (c.in-Some._stores, passes_with_all d c.args.used c.args.piece.now e c.in-Some._stores old new sound own c.in-Some.ensures.gives)

pub returns-in_err-end-clause-sure : goal.returns-in_err-end-clause-sure
returns-in_err-end-clause-sure g c = λ some sound sure.
    let e : EndedColumn = c.in_ok-column.column in
    let d = c.args.directive.now in
    let own : EndsWithAll d c.args.used c.args.piece.now e = subst
    (λ (o : Option EndedColumn). IfSome o (EndsWithAll d c.args.used c.args.piece.now)) c.in_ok-column.was c.requires.ends in
    let text : List ℕ = take e.ended.item (drop e.ended.before c.args.piece.now) in
    let room : ℕ = (g.S.Store.kept c.args.store.now).room in
    let is = c.ungiven.ensures.some text room (c.in_default.ensures.none refl)
    (sure_text d c.args.used c.args.piece.now room e sound own sure) in
    absurd (grind (arith, is))

pub returns-clause-ends : goal.returns-clause-ends
returns-clause-ends g c = λ sound.
    let e : EndedColumn = c.in_ok-column.column in
    let d = c.args.directive.now in
    let own : EndsWithAll d c.args.used c.args.piece.now e = subst
    (λ (o : Option EndedColumn). IfSome o (EndsWithAll d c.args.used c.args.piece.now)) c.in_ok-column.was c.requires.ends in
    let text : List ℕ = take e.ended.item (drop e.ended.before c.args.piece.now) in
    let room : ℕ = (g.S.Store.kept c.args.store.now).room in
    ends_giving_nothing d c.args.used c.args.piece.now e c.in_ok-end.end (g.S.Store.kept c.args.store.now)
    (g.S.Store.kept c.give.new.store) sound own c.in_ok-end.ensures.gives
    (c.in_ok-end.ensures.is text room (c.in_default.ensures.none refl)) (c.in_default.ensures.same refl)
