use Rattle.sf_report.proofs.Computing.{each_step}
use Rattle.sf_report.proofs.Ones.{one_made}
use Rattle.sf_report.proofs.StepLaws.{step_within}
use Rattle.sf_report.proofs.laws.steps_are_computed.Goals as goal

pub returns-clause-step : goal.returns-clause-step
returns-clause-step c = each_step

pub returns-clause-within : goal.returns-clause-within
returns-clause-within c = step_within

pub returns-clause-machine : goal.returns-clause-machine
returns-clause-machine c = one_made
