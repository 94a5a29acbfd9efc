use Rattle.std.proofs.Common.{subst}
use Rattle.sf_format.specs.Proper.{AreProper}
use Rattle.sf_run.specs.outcome.Ending.TheVariants.{End}
use Rattle.sf_laws_tests.proofs.runs.on_longer_inputs.Goals as goal

pub returns : goal.returns
returns c = λ sum closed z ending.
    c.closed_inputs_stay.ensures c.args.format.now (subst AreProper c.directives-directives.ensures.value
    c.directives-directives.ensures.proper) 1000
    c.args.text.now z End ending c.in-Ok.scanned.report closed (c.in-Ok.ensures.bounded sum)
