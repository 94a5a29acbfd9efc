use Rattle.std.proofs.Common.{◌∙◌, sym, subst}
use Rattle.sf_format.specs.declared.directive.Conversion.{Conversion}
use Rattle.sf_item.specs.ColumnTests.{ColumnEnds}
use Rattle.sf_item.specs.declared.item.ItemEnd.TheVariants.{Matched}
use Rattle.sf_run.proofs.Columns.{kept_column, text_column_fails}
use Rattle.sf_run.proofs.directive.finish_column_text.Goals as goal

pub returns-in_default-clause-end : goal.returns-in_default-clause-end
returns-in_default-clause-end c f own column taken begun =
    let k = c.args.conversion.now in
    let ends : ColumnEnds k f c.finish.result =
    subst (λ (e : Conversion). ColumnEnds e f c.finish.result) (sym own) (c.finish.ensures f taken) in
    text_column_fails k f c.args.slot c.finish.result begun ends c.in_default.not-Matched

pub returns-in-Matched-clause-end : goal.returns-in-Matched-clause-end
returns-in-Matched-clause-end c f own column taken begun =
    let k = c.args.conversion.now in
    let ends : ColumnEnds k f Matched = subst (λ (e : Conversion). ColumnEnds e f Matched) (sym own) (c.in-Matched.ensures f taken) in
    c.finish_kept.ensures.end _ c.requires ∙ kept_column k f c.args.slot column c.requires ends
