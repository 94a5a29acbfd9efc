use Rattle.sf_report.proofs.Machines.{some_from, some_to}
use Rattle.sf_report.proofs.laws.bytes_are_tried.Goals as goal

pub returns : goal.returns
returns c = λ n test. (λ e. some_from n test e, λ h. some_to n test h.0 h.1 h.2)
