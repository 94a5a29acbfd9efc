use Rattle.std.proofs.Common.{rules}
use Rattle.sf_words.proofs.words.output_of.Goals as goal

pub returns-in-json : goal.returns-in-json
returns-in-json c = search rules
