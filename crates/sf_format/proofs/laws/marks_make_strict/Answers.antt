use Rattle.sf_format.proofs.Marks.{marks_make_strict}
use Rattle.sf_format.proofs.laws.marks_make_strict.Goals as goal

pub returns : goal.returns
returns c = marks_make_strict
