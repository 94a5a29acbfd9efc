use Rattle.sf_words.proofs.Plain.{plain_taken}
use Rattle.sf_words.proofs.laws.plain_texts.Goals as goal

pub returns : goal.returns
returns c = plain_taken
