use Rattle.std.proofs.Common.{sym, subst, ap, ◌∙◌}
use Rattle.std.specs.Prelude.{IfSome}
use Rattle.sf_format.specs.declared.directive.Directive.{Directive}
use Rattle.sf_format.specs.declared.layout.Row.{Row}
use Rattle.sf_run.specs.Pieces.{EndsAtOnce, IsTextRow}
use Rattle.sf_run.proofs.StrictRows.{strict_text_row}
use Rattle.sf_run.proofs.quick.pass.Goals as goal

pub pass_so-requires-in-StrictText-clause-ends : goal.pass_so-requires-in-StrictText-clause-ends
pass_so-requires-in-StrictText-clause-ends g c =
    let d : Directive = c.args.directive.now in
    let own = strict_text_row d (ap (λ (r : Row). r.way) (sym c.requires.row) ∙ c.in-StrictText.is) in
    subst (λ (e : Directive). IfSome c.strict_text_at_once-ended.result (EndsAtOnce e c.args.used c.args.piece.now)) (sym own.is)
    (c.strict_text_at_once-ended.ensures own.conversion own.lead own.strict own.shape
    (subst (λ (r : Row). IsTextRow r own.conversion) (sym c.requires.row) own.as_text) c.args.used)
