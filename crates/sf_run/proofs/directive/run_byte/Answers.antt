use Rattle.std.proofs.Common.{sym, subst, refl, ◌∙◌}
use Rattle.sf_format.specs.declared.directive.Directive.TheVariants.{Byte, Percent}
use Rattle.sf_run.specs.declared.directive.Phase.TheVariants as phase
use Rattle.sf_run.specs.declared.directive.Run.{Run}
use Rattle.sf_report.specs.Machine.{Skipping}
use Rattle.sf_run.specs.Pieces.{Answers, Suits}
use Rattle.sf_run.proofs.Pieces.{byte_passes, none_first, percent_passes, some_first, suits_waits}
use Rattle.sf_run.proofs.directive.run_byte.Goals as goal

pub returns-in-None-clause-suits : goal.returns-in-None-clause-suits
returns-in-None-clause-suits c =
    let none = none_first c.args.piece.now c.in-None.ensures.value in
    subst (λ (r : Run). Suits (Byte c.args.due) phase.Skipping c.args.piece.now r) (sym c.waits.ensures)
    (suits_waits (Byte c.args.due) 0 c.args.piece.now refl none)

pub returns-in-None-clause-suits_percent : goal.returns-in-None-clause-suits_percent
returns-in-None-clause-suits_percent c =
    let none = none_first c.args.piece.now c.in-None.ensures.value in
    subst (λ (r : Run). Suits Percent phase.Skipping c.args.piece.now r) (sym c.waits.ensures)
    (suits_waits Percent 0 c.args.piece.now refl none)

pub returns-in-Some-clause-answers : goal.returns-in-Some-clause-answers
returns-in-Some-clause-answers c n =
    let first = some_first c.args.piece.now c.in-Some.b.now c.in-Some.ensures.value in
    subst (λ (r : Run). Answers (Byte c.args.due) Skipping n c.args.piece.now r) (sym c.ends.ensures)
    (byte_passes c.args.due n c.args.piece.now c.ranges.due.fits first.0 (first.1 ∙ c.if-b-due.true))

pub returns-in-Some-clause-percent : goal.returns-in-Some-clause-percent
returns-in-Some-clause-percent c is ink n =
    let first = some_first c.args.piece.now c.in-Some.b.now c.in-Some.ensures.value in
    subst (λ (r : Run). Answers Percent Skipping n c.args.piece.now r) (sym c.ends.ensures)
    (percent_passes n c.args.piece.now first.0 (ink first.0) (first.1 ∙ c.if-b-due.true ∙ is))
