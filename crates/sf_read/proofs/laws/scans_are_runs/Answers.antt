use Rattle.sf_read.proofs.InTurn as turn
use Rattle.sf_read.proofs.laws.scans_are_runs.Goals as goal

pub returns : goal.returns
returns g c = turn.scans_are_runs g.S.Source.to_come
