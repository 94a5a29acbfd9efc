use Rattle.sf_print.proofs.Lowest as lowest
use Rattle.sf_print.proofs.laws.lowest_is_told.Goals as goal

pub returns : goal.returns
returns c = lowest.lowest_is_told
