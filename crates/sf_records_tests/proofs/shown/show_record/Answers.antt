use Rattle.std.proofs.Common.{ℕ, subst, sym, ◌∙◌}
use Rattle.sf_run.specs.Limits.{RunTold}
use Rattle.sf_run.specs.Rows.{AreRowOf, given_to, kinds_of}
use Rattle.sf_run.specs.Runs.{RunReport}
use Rattle.sf_run.specs.outcome.Ending.TheVariants.{End}
use Rattle.sf_records.proofs.RowsWritten.{values_given}
use Rattle.sf_records_tests.proofs.ShownLemmas.{csv_given, csv_row, json_given, json_row, json_text, table_given, table_row}
use Rattle.sf_records_tests.proofs.WrittenLemmas.{are_bytes}
use Rattle.sf_records_tests.proofs.shown.show_record.Goals as goal

pub returns-clause-given : goal.returns-clause-given
returns-clause-given c =
    let ds = c.args.format.now in
    let text = c.args.text.now in
    let r = c.report-report.result in
    let n = c.destinations-destinations.result in
    let bytes = are_bytes text c.type_inv.text in
    let told = subst (λ (report : RunReport). RunTold ds 1048576 text End report) (sym c.report-report.ensures) c.in-Ok.ensures.report in
    let done = sym c.outcome.ensures.status ∙ c.in-Done.is in
    let fills = c.done_runs_have_rows.ensures.slots ds c.destinations-destinations.ensures.accepted 1048576 text End r bytes told done in
    let are = values_given n ds r.values fills in
    let given = c.records_are_given.ensures.records in
    let back = c.missing_values_read_back.ensures in (
      given_to n r.values,
      csv_given given n r are back.rows c.in_ok-csv.csv.items c.in_ok-csv.ensures,
      json_given given n r are back.arrays c.in_ok-json.json.items c.in_ok-json.ensures,
      table_given given n r are back.tables c.in_ok-table.table.items c.in_ok-table.ensures,
    )

pub returns-clause-rows : goal.returns-clause-rows
returns-clause-rows c = λ none.
    let ds = c.args.format.now in
    let text = c.args.text.now in
    let r = c.report-report.result in
    let n = c.destinations-destinations.result in
    let bytes = are_bytes text c.type_inv.text in
    let told = subst (λ (report : RunReport). RunTold ds 1048576 text End report) (sym c.report-report.ensures) c.in-Ok.ensures.report in
    let done = sym c.outcome.ensures.status ∙ c.in-Done.is in
    let has = c.done_runs_have_rows.ensures.row ds c.destinations-destinations.ensures.accepted none 1048576 text End r bytes told done in
    let rows = c.records_are_rows.ensures in
    let is_row = subst (λ (k : ℕ). AreRowOf k has.row r.values) (sym c.destinations-destinations.ensures.count) has.is_row in
    let are = has.are_values in (
      has.row,
      csv_row rows n r has.row is_row are c.csv_reads_back.ensures c.in_ok-csv.csv.items c.in_ok-csv.ensures,
      json_row rows n r has.row is_row are c.json_reads_back.ensures c.in_ok-json.json.items c.in_ok-json.ensures,
      table_row rows n r has.row is_row are c.tsv_reads_back.ensures (kinds_of ds) has.kinds c.in_ok-table.table.items
          c.in_ok-table.ensures,
      json_text rows n r has.row is_row are c.json_is_utf8.ensures c.in_ok-json.json.items c.in_ok-json.ensures,
    )
