use Rattle.sf_records.proofs.OneEnd.{one_end_by}
use Rattle.sf_records.proofs.laws.one_end.Goals as goal

pub returns : goal.returns
returns c = one_end_by c.one_report.ensures
