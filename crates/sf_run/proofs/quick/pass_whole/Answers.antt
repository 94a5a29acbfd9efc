use Rattle.sf_run.proofs.Pieces.{ended_whole}
use Rattle.sf_run.proofs.quick.pass_whole.Goals as goal

pub end_so-requires-clause-ends : goal.end_so-requires-clause-ends
end_so-requires-clause-ends g c =
    ended_whole c.args.directive.now c.args.used c.args.piece.now c.in-Some-seen_at_once.ended
    (c.in-Some-seen_at_once.ensures c.args.used)

pub end_so-requires-in-Some-rarer_at_once-clause-ends : goal.end_so-requires-in-Some-rarer_at_once-clause-ends
end_so-requires-in-Some-rarer_at_once-clause-ends g c =
    ended_whole c.args.directive.now c.args.used c.args.piece.now c.in-Some-rarer_at_once.ended
    (c.in-Some-rarer_at_once.ensures c.args.used)
