use Rattle.sf_forms.proofs.CsvReading as csv
use Rattle.sf_forms.proofs.JsonReading.{members_given, values_back}
use Rattle.sf_forms.proofs.JsonUtf8.{given_utf8}
use Rattle.sf_forms.proofs.TableReading as tables
use Rattle.sf_forms.proofs.laws.missing_values_read_back.Goals as goal

pub returns-clause-tables : goal.returns-clause-tables
returns-clause-tables c = tables.texts_back

pub returns-clause-rows : goal.returns-clause-rows
returns-clause-rows c = csv.texts_back

pub returns-clause-arrays : goal.returns-clause-arrays
returns-clause-arrays c = values_back

pub returns-clause-objects : goal.returns-clause-objects
returns-clause-objects c = members_given

pub returns-clause-utf8 : goal.returns-clause-utf8
returns-clause-utf8 c = given_utf8
