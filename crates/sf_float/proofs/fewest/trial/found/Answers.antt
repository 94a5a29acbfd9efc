use Rattle.sf_float.proofs.FewestLemmas.Full.{searched_same}
use Rattle.sf_float.proofs.fewest.trial.found.Goals as goal

pub returns-in-None-clause-same : goal.returns-in-None-clause-same
returns-in-None-clause-same c =
    searched_same c.args.real c.searched.result c.args.cut.first c.requires.cut.first_is c.searched.ensures.value
