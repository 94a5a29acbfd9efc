use Rattle.std.proofs.Common.{arith}
use Rattle.sf_run.proofs.Pieces.{answers_behind, next_behind, percent_skips}
use Rattle.sf_run.proofs.directive.run_percent.Goals as goal

pub returns-clause-answers : goal.returns-clause-answers
returns-clause-answers c n = grind (arith, next_behind, answers_behind, percent_skips)
