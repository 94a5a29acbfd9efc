use Rattle.sf_words.proofs.Dashes.{texts_taken}
use Rattle.sf_words.proofs.laws.texts_behind_dashes.Goals as goal

pub returns : goal.returns
returns c = texts_taken
