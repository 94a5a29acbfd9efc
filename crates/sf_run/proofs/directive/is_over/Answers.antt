use Rattle.std.proofs.Common.{arith}
use Rattle.std.proofs.Common.{◌++◌, take, drop, sym, ◌∙◌}
use Rattle.sf_format.specs.declared.directive.Directive.TheVariants.{Conv}
use Rattle.sf_item.specs.Taking.{conversion_of}
use Rattle.sf_report.specs.Machine.{Item}
use Rattle.sf_run.proofs.Pieces.{over_next, stays_full}
use Rattle.sf_run.proofs.Stages.{item_full, shown_full}
use Rattle.sf_run.proofs.directive.is_over.Goals as goal

pub returns-then-item-piece-clause-over : goal.returns-then-item-piece-clause-over
returns-then-item-piece-clause-over c f proper plain h never over = grind (arith, over_next)

pub returns-else-item-piece-clause-over : goal.returns-else-item-piece-clause-over
returns-else-item-piece-clause-over c f proper plain h never full =
    let scan = c.args.scan.now in
    let item = f ++ take c.args.item c.args.piece.now in
    stays_full (Conv (conversion_of scan)) (Item item) (drop c.args.item c.args.piece.now) proper
    (sym (item_full scan item c.is_full.result proper.0 plain (c.is_full.ensures item h proper.0)) ∙ full)

pub returns-else-item-piece-clause-more : goal.returns-else-item-piece-clause-more
returns-else-item-piece-clause-more c d slot q proper shows none =
    sym (shown_full d slot c.args.scan.now q c.is_full.result proper shows (λ f h own. c.is_full.ensures f h own)) ∙ none
