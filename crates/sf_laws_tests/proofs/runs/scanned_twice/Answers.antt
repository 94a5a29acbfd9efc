use Rattle.std.proofs.Common.{sym, subst, ◌∙◌}
use Rattle.sf_format.specs.Proper.{AreProper}
use Rattle.sf_run.specs.outcome.Ending.TheVariants.{End}
use Rattle.sf_laws_tests.proofs.runs.scanned_twice.Goals as goal

pub returns : goal.returns
returns c = λ sum.
    let one = c.one_report.ensures c.args.format.now (subst AreProper c.directives-directives.ensures.value
    c.directives-directives.ensures.proper) 1000 c.args.text.now End in
    one.only c.in-Ok.first.report (c.in-Ok.ensures.bounded sum) ∙ sym
    (one.only c.in-Ok-sscan.second.report (c.in-Ok-sscan.ensures.bounded sum))
