use Rattle.sf_read.proofs.LineLemmas.Cutting.{cut_joined}
use Rattle.sf_read.proofs.line.laws.lines_are_joined.Goals as goal

pub returns : goal.returns
returns c = cut_joined
