use Rattle.std.proofs.Common.{arith}
use Rattle.std.proofs.lemmas.Grind.{common_steps}
use Rattle.sf_print.proofs.sink.script_sink.Script.allow.Goals as goal

pub returns-in-empty-clause-value : goal.returns-in-empty-clause-value
returns-in-empty-clause-value c = grind (arith, common_steps)

pub returns-in-empty-clause-at : goal.returns-in-empty-clause-at
returns-in-empty-clause-at c = grind (arith, common_steps)

pub steps-preserved : goal.steps-preserved
steps-preserved c = grind (arith, common_steps)

pub returns-in-Fail-clause-script : goal.returns-in-Fail-clause-script
returns-in-Fail-clause-script c = grind (arith, common_steps)
