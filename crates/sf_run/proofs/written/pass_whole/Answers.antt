use Rattle.std.proofs.Common.{refl}
use Rattle.sf_run.proofs.Writing.{stored_surely}
use Rattle.sf_run.proofs.written.pass_whole.Goals as goal

pub pass_real-requires-clause-ends : goal.pass_real-requires-clause-ends
pass_real-requires-clause-ends g c = c.in-Some.ensures.ends c.args.used

pub returns-in_err-ended-clause-sure : goal.returns-in_err-ended-clause-sure
returns-in_err-ended-clause-sure g c = λ proper free sure room.
    let kept = stored_surely g.W.ValueWriter.text c.args.directive.now c.args.used c.args.piece.now free sure in
    absurd (c.in_err-ended.ensures.waits refl proper kept.0 kept.1)
