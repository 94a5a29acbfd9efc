use Rattle.std.proofs.Common.{None, false}
use Rattle.sf_command_tests.proofs.OnceLemmas.{runs_once}
use Rattle.sf_command_tests.proofs.once.said_once.Goals as goal

pub returns : goal.returns
returns g c = runs_once _ _ _ _ _ _ _ _ _ c.one_is_said.ensures false _ None _ _ _ _ _ _ _ c.run_words.ensures
