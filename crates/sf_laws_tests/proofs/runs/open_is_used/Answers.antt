use Rattle.std.proofs.Common.{subst}
use Rattle.sf_format.specs.Proper.{AreProper}
use Rattle.sf_run.specs.outcome.Ending.TheVariants.{End}
use Rattle.sf_laws_tests.proofs.DoneRuns.{done_run}
use Rattle.sf_laws_tests.proofs.runs.open_is_used.Goals as goal

pub returns : goal.returns
returns c = λ sum open' done.
    c.open_inputs_are_used.ensures c.args.format.now (subst AreProper c.directives-directives.ensures.value
    c.directives-directives.ensures.proper)
    c.args.text.now End c.in-Ok.scanned.report open' (done_run c.args.format.now 1000 c.args.text.now End c.in-Ok.scanned.report done
    (c.in-Ok.ensures.bounded sum))
