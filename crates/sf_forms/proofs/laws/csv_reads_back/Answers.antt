use Rattle.sf_forms.proofs.CsvReading.{rows_back}
use Rattle.sf_forms.proofs.laws.csv_reads_back.Goals as goal

pub returns : goal.returns
returns c = rows_back
