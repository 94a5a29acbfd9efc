use Rattle.std.proofs.Common.{sym, subst, ◌∙◌}
use Rattle.sf_format.specs.declared.directive.Conversion.{Conversion}
use Rattle.sf_item.specs.declared.item.ItemEnd.TheVariants.{Matched}
use Rattle.sf_item.specs.Taking.{Ends}
use Rattle.sf_run.proofs.Stages.{kept_end, text_fails}
use Rattle.sf_run.proofs.directive.finish_text.Goals as goal

pub returns-in_default-clause-end : goal.returns-in_default-clause-end
returns-in_default-clause-end c f some h same text =
    let d = c.args.conversion.now in
    let ends : Ends d f c.finish.result = subst (λ (e : Conversion). Ends e f c.finish.result) (sym same) (c.finish.ensures f h) in
    text_fails d f c.args.slot c.finish.result text some ends c.in_default.not-Matched

pub returns-in-Matched-clause-end : goal.returns-in-Matched-clause-end
returns-in-Matched-clause-end c f some h same text =
    let d = c.args.conversion.now in
    let ends : Ends d f Matched = subst (λ (e : Conversion). Ends e f Matched) (sym same) (c.in-Matched.ensures f h) in
    c.finish_kept.ensures.end f text ∙ kept_end d f c.args.slot text ends.1
