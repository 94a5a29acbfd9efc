use Rattle.sf_words.proofs.Formats.{formats_taken}
use Rattle.sf_words.proofs.laws.formats_of_lines.Goals as goal

pub returns : goal.returns
returns c = formats_taken
