use Rattle.std.proofs.Common.{rules, ◌≡◌, ◌<◌, ℕ, List, [], length, sym, subst, ap, arith}
use Rattle.sf_format.specs.declared.directive.Directive.TheVariants.{Conv}
use Rattle.sf_run.specs.declared.directive.Phase.TheVariants as phase
use Rattle.sf_run.specs.declared.directive.Run.{Run}
use Rattle.sf_run.specs.Pieces.{Suits}
use Rattle.sf_run.specs.Texts.{text_slot}
use Rattle.sf_run.proofs.Columns.{none_begun}
use Rattle.sf_run.proofs.ColumnAnswers.{suits_first}
use Rattle.sf_run.proofs.Pieces.{suits_waits}
use Rattle.sf_run.proofs.directive.begin_column.Goals as goal

pub returns-then-is_empty-clause-suits : goal.returns-then-is_empty-clause-suits
returns-then-is_empty-clause-suits c =
    let none : 0 ≡ length c.args.piece.now = search rules in
    subst (λ (r : Run). Suits (Conv c.args.conversion.now) phase.Skipping c.args.piece.now r) (sym c.waits.ensures)
    (suits_waits (Conv c.args.conversion.now) 0 c.args.piece.now c.requires.item none)

pub returns-clause-answers : goal.returns-clause-answers
returns-clause-answers c proper n =
    let piece : List ℕ = c.args.piece.now in
    let some : 0 < length piece = search rules in
    c.run_column.ensures.answers [] proper (sym c.start.ensures.conversion) c.requires.column c.start.ensures.nothing
    (λ e. (let none = ap length e in omega (arith, some, none))) (none_begun (text_slot (Conv c.args.conversion.now))) n

pub returns-clause-suits : goal.returns-clause-suits
returns-clause-suits c =
    let e = c.run_column.ensures in
    suits_first c.args.conversion.now c.start.result c.args.piece.now c.run_column.result c.start.ensures.left e.within e.all e.more
    e.slot e.column e.left e.end
