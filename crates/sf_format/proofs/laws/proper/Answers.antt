use Rattle.sf_format.proofs.Accepted.{proper, print_proper}
use Rattle.sf_format.proofs.laws.proper.Goals as goal

pub returns-clause-scan : goal.returns-clause-scan
returns-clause-scan c = proper

pub returns-clause-print : goal.returns-clause-print
returns-clause-print c = print_proper
