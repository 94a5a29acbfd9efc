use Rattle.sf_arguments.proofs.OneAnswer.{one_value_holds}
use Rattle.sf_arguments.proofs.laws.one_value.Goals as goal

pub returns : goal.returns
returns c = one_value_holds
