use Rattle.std.proofs.Common.{arith}
use Rattle.sf_report.proofs.Skips.{white_below}
use Rattle.sf_run.proofs.directive.spaces.Goals as goal

pub returns-in_default-clause-white : goal.returns-in_default-clause-white
returns-in_default-clause-white c k below = grind (arith, white_below)
