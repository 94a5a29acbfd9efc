use Rattle.std.proofs.Common.{sym, subst, ap, ◌∙◌}
use Rattle.std.specs.Prelude.{IfSome}
use Rattle.sf_format.specs.declared.directive.Directive.{Directive}
use Rattle.sf_format.specs.declared.layout.Row.{Row}
use Rattle.sf_run.specs.Pieces.{EndsAtOnce, IsTextRow}
use Rattle.sf_run.proofs.StrictRows.{strict_text_row}
use Rattle.sf_run.proofs.written.ended_at_once.Goals as goal

pub returns-in-StrictText : goal.returns-in-StrictText
returns-in-StrictText g c = λ n.
    let own = strict_text_row c.args.directive.now (ap (λ (r : Row). r.way) (sym c.requires.row) ∙ c.in-StrictText.is) in
    subst (λ (d : Directive). IfSome c.strict_text_at_once.result (EndsAtOnce d n c.args.piece.now)) (sym own.is)
    (c.strict_text_at_once.ensures own.conversion own.lead own.strict own.shape
    (subst (λ (r : Row). IsTextRow r own.conversion) (sym c.requires.row) own.as_text) n)
