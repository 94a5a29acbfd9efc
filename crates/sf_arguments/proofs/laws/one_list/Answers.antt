use Rattle.sf_arguments.proofs.OneAnswer.{one_list_holds}
use Rattle.sf_arguments.proofs.laws.one_list.Goals as goal

pub returns : goal.returns
returns c = one_list_holds
