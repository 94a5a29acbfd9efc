use Rattle.std.proofs.Common.{rules}
use Rattle.sf_words.proofs.words.lines_of.Goals as goal

pub returns : goal.returns
returns c = search rules
