use Rattle.std.proofs.Common.{false, sym, ap, subst, ◌∙◌}
use Rattle.sf_base.specs.stores.Kept.{text_of}
use Rattle.sf_format.specs.declared.directive.Directive.{Directive}
use Rattle.sf_run.specs.Texts.{closing_text, opened_for}
use Rattle.sf_report.specs.Machine.{finished}
use Rattle.sf_run.specs.Phases.{Shows, end_of}
use Rattle.sf_run.proofs.directive.finish.Goals as goal

pub returns-in-Conv-clause-end : goal.returns-in-Conv-clause-end
returns-in-Conv-clause-end c q opened shows is =
    let e = c.in-Conv.is in
    ap (λ (x : Directive). end_of (closing_text x (text_of opened)) c.finish_conversion.result) e
    ∙ c.finish_conversion.ensures.end q opened (subst (λ (x : Directive). Shows x c.args.phase q) e shows)
    (is ∙ ap (λ (x : Directive). opened_for x q) e)
    ∙ ap (λ (x : Directive). finished x q c.args.used false) (sym e)
