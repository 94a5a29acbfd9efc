use Rattle.std.proofs.Common.{subst, List}
use Rattle.sf_format.specs.declared.directive.Directive.{Directive}
use Rattle.sf_format.specs.Proper.{AreProper}
use Rattle.sf_report.specs.Views.{report_by}
use Rattle.sf_run.proofs.Surely.{done_seen, ended_of}
use Rattle.sf_run.proofs.quick.done_rest.Goals as goal

pub returns-in_default-clause-answers : goal.returns-in_default-clause-answers
returns-in_default-clause-answers g c = λ capacity enough done.
    let ds = c.directives-directives.ensures in
    let proper : AreProper c.args.format.now = subst (λ (l : List Directive). AreProper l) ds.value ds.proper in
    absurd (c.in_default.not-Done (done_seen c.args.format.now proper c.args.limit c.args.piece.now
    capacity (report_by c.in_ok-outcome.outcome (g.S.Store.kept c.run_rest.new.store).values)
    c.in_ok-outcome.ensures.run done))

pub returns-in_err-outcome-clause-answers : goal.returns-in_err-outcome-clause-answers
returns-in_err-outcome-clause-answers g c = λ capacity enough done.
    absurd (let h = c.in_err-outcome.ensures.answers capacity enough (ended_of done) in cc)
