use Rattle.std.proofs.Common.{refl}
use Rattle.sf_report.specs.Machine.{Skipping}
use Rattle.sf_run.proofs.Pieces.{ended_by, ended_whole, waits_late}
use Rattle.sf_run.proofs.directive.ended_by_run.Goals as goal

pub returns-in-Some-opener_at_once-clause-ends : goal.returns-in-Some-opener_at_once-clause-ends
returns-in-Some-opener_at_once-clause-ends c =
    ended_whole c.args.directive.now c.args.used c.args.piece.now _ (c.in-Some-opener_at_once.ensures c.args.used)

pub returns-clause-ends : goal.returns-clause-ends
returns-clause-ends c =
    ended_by c.args.directive.now c.args.used c.args.piece.now c.run_on-run.result c.as_ended.result c.as_ended.ensures.is
    (λ proper. c.run_on-run.ensures.answers Skipping proper refl) c.run_on-run.ensures.suits

pub returns-clause-waits : goal.returns-clause-waits
returns-clause-waits c none proper room sure =
    waits_late c.args.directive.now c.args.used c.args.piece.now room c.run_on-run.result (c.as_ended.ensures.none none)
    (c.run_on-run.ensures.answers Skipping proper refl) c.run_on-run.ensures.suits sure
