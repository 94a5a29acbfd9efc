use Rattle.sf_report.proofs.Early as early
use Rattle.sf_report.proofs.laws.early_runs_stay.Goals as goal

pub returns : goal.returns
returns c = early.early_runs_stay
