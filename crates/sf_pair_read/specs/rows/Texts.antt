-- What is said of a row that was not read.
use Rattle.std.specs.Prelude.{ℕ, List, ◌++◌, codes}
use Rattle.std.specs.Fmt.{decimal}
use Rattle.sf_read.specs.Texts.{scan_row_fault_text}
use Rattle.sf_pair_read.specs.declared.rows.fault.ReadRowsFault.{ReadRowsFault}

abbrev pub read_rows_fault_text : ReadRowsFault → List ℕ
read_rows_fault_text fault = codes "row " ++ (decimal fault.row ++ (codes ": " ++ scan_row_fault_text fault.why))
