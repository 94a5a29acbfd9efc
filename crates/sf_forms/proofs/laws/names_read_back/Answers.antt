use Rattle.sf_forms.proofs.CsvReading as csv
use Rattle.sf_forms.proofs.TableReading as tables
use Rattle.sf_forms.proofs.laws.names_read_back.Goals as goal

pub returns-clause-tables : goal.returns-clause-tables
returns-clause-tables c = tables.names_read

pub returns-clause-rows : goal.returns-clause-rows
returns-clause-rows c = csv.names_read
