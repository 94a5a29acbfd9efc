use Rattle.std.proofs.Common.{arith, sym, subst, ◌++◌, ◌∙◌, ◌≤◌, ap, length, take}
use Rattle.sf_base.specs.Data.{Real}
use Rattle.sf_report.specs.Runs.{passed}
use Rattle.sf_report.specs.Steps.{StepEnd}
use Rattle.sf_run.specs.Written.{text_given}
use Rattle.sf_run.proofs.Writing.{passes_writing, surely_given}
use Rattle.sf_run.proofs.written.pass_real.Goals as goal

pub returns-in_err-end-clause-sure : goal.returns-in_err-end-clause-sure
returns-in_err-end-clause-sure g c = λ proper free sure room.
    let text = g.W.ValueWriter.text in
    let given = surely_given text c.args.directive.now c.args.used c.args.piece.now free c.args.read.ended proper c.requires.ends sure in
    let fits : length (text (Real c.args.read.real)) ≤ free =
    subst (λ (e : StepEnd). length (text_given text e) ≤ free) c.requires.real given.1 in
    absurd (let h = c.in_err-end.ensures.answers (omega (arith, fits, room)) in cc)

pub returns-clause-passes : goal.returns-clause-passes
returns-clause-passes g c = λ proper.
    let text = g.W.ValueWriter.text in
    passes_writing text c.args.directive.now c.args.used c.args.piece.now c.args.read.ended (take c.args.at c.args.room.now)
    (take c.in_ok-end.end c.write_real.new.room) proper c.requires.ends (ap passed c.requires.real)
    (c.in_ok-end.ensures.written ∙ ap (λ (e : StepEnd). take c.args.at c.args.room.now ++ text_given text e) (sym c.requires.real))
