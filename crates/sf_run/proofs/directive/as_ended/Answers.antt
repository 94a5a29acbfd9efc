use Rattle.std.proofs.Common.{◌∙◌, take, ap}
use Rattle.sf_run.specs.Texts.{closing_text}
use Rattle.sf_run.proofs.Pieces.{closes_within, ended_so}
use Rattle.sf_run.proofs.directive.as_ended.Goals as goal

pub overflow_sub-result : goal.overflow_sub-result
overflow_sub-result c =
    closes_within c.args.directive.now c.args.piece.now c.args.run _ c.requires (c.closing_text-item.ensures
    ∙ ap (closing_text c.args.directive.now) (c.split_at-2.ensures.front ∙ ap (take c.args.run.item) c.split_at.ensures.back))

pub returns-clause-is : goal.returns-clause-is
returns-clause-is c =
    ended_so c.args.directive.now c.args.piece.now c.args.run _ c.in_ok-finished.finished c.requires c.in_ok-finished.was
    (c.closing_text-item.ensures
    ∙ ap (closing_text c.args.directive.now) (c.split_at-2.ensures.front ∙ ap (take c.args.run.item) c.split_at.ensures.back))
