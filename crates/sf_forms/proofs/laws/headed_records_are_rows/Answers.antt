use Rattle.sf_forms.proofs.RecordRows.{headed_is_row}
use Rattle.sf_forms.proofs.laws.headed_records_are_rows.Goals as goal

pub returns : goal.returns
returns c = headed_is_row
