use Rattle.sf_records.proofs.LinewiseLemmas.RowsRead.{lines_back}
use Rattle.sf_records.proofs.by_lines.laws.lines_read_back.Goals as goal

pub returns : goal.returns
returns g c =
    let missing = c.missing_values_read_back.ensures in
    lines_back g.S.Source.to_come c.done_runs_have_rows.ensures.slots c.records_are_given.ensures.headed (record {
      tables = missing.tables;
      named = c.names_read_back.ensures.tables;
      rows = missing.rows;
      arrays = missing.arrays;
      objects = missing.objects;
    })
