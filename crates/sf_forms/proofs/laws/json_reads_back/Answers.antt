use Rattle.sf_forms.proofs.JsonReading.{arrays_back}
use Rattle.sf_forms.proofs.laws.json_reads_back.Goals as goal

pub returns : goal.returns
returns c = arrays_back
