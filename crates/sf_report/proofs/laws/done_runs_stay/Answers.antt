use Rattle.sf_report.proofs.Fronts as fronts
use Rattle.sf_report.proofs.laws.done_runs_stay.Goals as goal

pub returns : goal.returns
returns c = fronts.done_runs_stay
