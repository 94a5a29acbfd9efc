use Rattle.std.proofs.Common.{rules}
use Rattle.sf_words.proofs.words.verb_of.Goals as goal

pub returns-in-check : goal.returns-in-check
returns-in-check c = search rules
