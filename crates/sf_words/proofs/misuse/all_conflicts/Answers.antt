use Rattle.std.proofs.Common.{refl}
use Rattle.sf_words.proofs.misuse.all_conflicts.Goals as goal

pub returns : goal.returns
returns c = λ rows. refl
