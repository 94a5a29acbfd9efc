use Rattle.sf_read.proofs.InTurn as turn
use Rattle.sf_read.proofs.laws.reads_are_one_input.Goals as goal

pub returns : goal.returns
returns g c = turn.reads_are_one_input g.S.Source.to_come g.S.Source.reads g.row.N
