use Rattle.sf_report.proofs.Told as told
use Rattle.sf_report.proofs.laws.one_report.Goals as goal

pub returns : goal.returns
returns c = told.one_report
