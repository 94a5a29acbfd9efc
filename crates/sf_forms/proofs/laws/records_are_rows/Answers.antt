use Rattle.sf_forms.proofs.RecordRows.{record_is_row}
use Rattle.sf_forms.proofs.laws.records_are_rows.Goals as goal

pub returns : goal.returns
returns c = record_is_row
