use Rattle.sf_forms.proofs.JsonUtf8.{arrays_utf8}
use Rattle.sf_forms.proofs.laws.json_is_utf8.Goals as goal

pub returns : goal.returns
returns c = arrays_utf8
