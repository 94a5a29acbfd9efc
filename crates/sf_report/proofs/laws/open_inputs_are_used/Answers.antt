use Rattle.sf_report.proofs.Inputs as inputs
use Rattle.sf_report.proofs.laws.open_inputs_are_used.Goals as goal

pub returns : goal.returns
returns c = inputs.open_inputs_are_used
