use Rattle.std.proofs.Common.{sym, subst, refl, arith}
use Rattle.sf_format.specs.declared.directive.Directive.TheVariants.{Space}
use Rattle.sf_run.specs.declared.directive.Phase.TheVariants as phase
use Rattle.sf_run.specs.declared.directive.Run.{Run}
use Rattle.sf_report.specs.Machine.{Skipping}
use Rattle.sf_run.specs.Pieces.{Answers, Suits}
use Rattle.sf_run.proofs.Pieces.{space_waits, space_ends, suits_waits}
use Rattle.sf_run.proofs.directive.run_space.Goals as goal

pub returns-then-space-piece-clause-answers : goal.returns-then-space-piece-clause-answers
returns-then-space-piece-clause-answers c n =
    let e = c.space_before-space.ensures in
    let below = c.if-space-piece.true in
    subst (λ (r : Run). Answers Space Skipping n c.args.piece.now r) (sym c.ends.ensures)
    (space_ends c.args.piece.now n c.space_before-space.result e.within e.white below (e.next below))

pub returns-else-space-piece-clause-answers : goal.returns-else-space-piece-clause-answers
returns-else-space-piece-clause-answers c n =
    let e = c.space_before-space.ensures in
    subst (λ (r : Run). Answers Space Skipping n c.args.piece.now r) (sym c.waits.ensures)
    (space_waits c.args.piece.now n c.space_before-space.result e.within e.white c.if-space-piece.false)

pub returns-else-space-piece-clause-suits : goal.returns-else-space-piece-clause-suits
returns-else-space-piece-clause-suits c =
    let within = c.space_before-space.ensures.within in
    let all = c.if-space-piece.false in
    subst (λ (r : Run). Suits Space phase.Skipping c.args.piece.now r) (sym c.waits.ensures)
    (suits_waits Space c.space_before-space.result c.args.piece.now refl (omega (arith, within, all)))
