use Rattle.sf_forms.proofs.TableReading.{table_back}
use Rattle.sf_forms.proofs.laws.tsv_reads_back.Goals as goal

pub returns : goal.returns
returns c = table_back c.reads_back.ensures
