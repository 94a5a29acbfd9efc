use Rattle.sf_forms.proofs.RecordRows.{headed_is_given, record_is_given}
use Rattle.sf_forms.proofs.laws.records_are_given.Goals as goal

pub returns-clause-records : goal.returns-clause-records
returns-clause-records c = record_is_given

pub returns-clause-headed : goal.returns-clause-headed
returns-clause-headed c = headed_is_given
