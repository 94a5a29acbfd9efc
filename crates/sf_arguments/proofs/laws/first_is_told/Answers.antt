use Rattle.sf_arguments.proofs.OneAnswer.{first_is_told_holds}
use Rattle.sf_arguments.proofs.laws.first_is_told.Goals as goal

pub returns : goal.returns
returns c = first_is_told_holds
