use Rattle.sf_arguments.proofs.OneAnswer.{count_is_told_holds}
use Rattle.sf_arguments.proofs.laws.count_is_told.Goals as goal

pub returns : goal.returns
returns c = count_is_told_holds
