use Rattle.sf_run.proofs.Pieces.{ended_whole}
use Rattle.sf_run.proofs.written.ended_by_shape.Goals as goal

pub returns-in-Some-clause-ends : goal.returns-in-Some-clause-ends
returns-in-Some-clause-ends c = ended_whole c.args.directive.now c.args.used c.args.piece.now _ (c.in-Some.ensures c.args.used)
