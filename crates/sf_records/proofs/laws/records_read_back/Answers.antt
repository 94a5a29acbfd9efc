use Rattle.sf_records.proofs.RowsWritten.{records_back}
use Rattle.sf_records.proofs.laws.records_read_back.Goals as goal

pub returns : goal.returns
returns g c =
    let missing = c.missing_values_read_back.ensures in
    records_back g.S.Source.to_come c.done_runs_have_rows.ensures.slots c.done_runs_have_rows.ensures.row
    c.records_are_given.ensures.headed (record {
      tables = missing.tables;
      named = c.names_read_back.ensures.tables;
      rows = missing.rows;
      arrays = missing.arrays;
      objects = missing.objects;
    }) c.tsv_reads_back.ensures
