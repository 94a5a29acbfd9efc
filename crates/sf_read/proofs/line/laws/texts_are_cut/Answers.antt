use Rattle.sf_read.proofs.LineLemmas.Cutting.{lines_of_text, joined_cut}
use Rattle.sf_read.proofs.line.laws.texts_are_cut.Goals as goal

pub returns : goal.returns
returns c text = (lines_of_text text, joined_cut text)
