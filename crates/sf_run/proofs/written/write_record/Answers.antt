use Rattle.std.proofs.Common.{arith, subst}
use Rattle.sf_format.specs.Proper.{AreProper}
use Rattle.sf_run.proofs.Following.{follows_as}
use Rattle.sf_run.proofs.written.write_record.Goals as goal

pub returns-in_err-run-clause-answers : goal.returns-in_err-run-clause-answers
returns-in_err-run-clause-answers g c follows =
    absurd (let some = c.in_err-run.ensures.answers follows.apart follows.capacity follows.run follows.fits in cc)

pub returns-then-run-eq0-clause-answers : goal.returns-then-run-eq0-clause-answers
returns-then-run-eq0-clause-answers g c follows =
    let proper : AreProper c.args.format.now = subst (λ l. AreProper l) c.directives.ensures.value c.directives.ensures.proper in
    let own = follows_as g.W.ValueWriter.text g.W.ValueWriter.spare c.args.format.now proper c.args.limit c.args.piece.now _ _ _ follows
    c.in_ok-run.ensures.run in
    let some = own.0 in
    absurd (omega (arith, some, c.if-run-eq0.true))

pub returns-in_err-end-clause-answers : goal.returns-in_err-end-clause-answers
returns-in_err-end-clause-answers g c follows =
    let proper : AreProper c.args.format.now = subst (λ l. AreProper l) c.directives.ensures.value c.directives.ensures.proper in
    let own = follows_as g.W.ValueWriter.text g.W.ValueWriter.spare c.args.format.now proper c.args.limit c.args.piece.now _ _ _ follows
    c.in_ok-run.ensures.run in
    let fits = own.2 in
    absurd (let some = c.in_err-end.ensures.answers c.in_ok-run.ensures.run.values own.1 c.in_ok-run.ensures.run.written
    (omega (arith, fits, c.write_values.auto.room)) in cc)
