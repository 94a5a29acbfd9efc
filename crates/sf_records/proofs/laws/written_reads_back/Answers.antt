use Rattle.sf_records.proofs.RowsWritten.{reads_back}
use Rattle.sf_records.proofs.laws.written_reads_back.Goals as goal

pub returns : goal.returns
returns g c = reads_back g.S.Source.to_come c.records_read_back.ensures
