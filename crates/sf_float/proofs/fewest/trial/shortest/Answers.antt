use Rattle.std.proofs.Common.{◌∙◌}
use Rattle.sf_float.proofs.fewest.trial.shortest.Goals as goal

pub returns-clause-value : goal.returns-clause-value
returns-clause-value c = c.trimmed.ensures.value ∙ c.found-n.ensures.same
