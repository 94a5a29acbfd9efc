use Rattle.sf_report.proofs.Inputs as inputs
use Rattle.sf_report.proofs.laws.closed_inputs_stay.Goals as goal

pub returns : goal.returns
returns c = inputs.closed_inputs_stay
