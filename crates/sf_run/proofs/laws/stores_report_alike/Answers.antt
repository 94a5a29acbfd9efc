use Rattle.sf_run.proofs.TwoStores as two
use Rattle.sf_run.proofs.laws.stores_report_alike.Goals as goal

pub returns : goal.returns
returns c = two.stores_report_alike
