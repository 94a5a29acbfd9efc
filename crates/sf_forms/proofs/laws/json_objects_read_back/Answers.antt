use Rattle.sf_forms.proofs.JsonReading.{objects_back}
use Rattle.sf_forms.proofs.laws.json_objects_read_back.Goals as goal

pub returns : goal.returns
returns c = objects_back
