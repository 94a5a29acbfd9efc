use Rattle.std.proofs.Common.{arith, take}
use Rattle.sf_run.proofs.Writing.{passes_writing_all, surely_given_all}
use Rattle.sf_run.proofs.written.pass_column.Goals as goal

pub returns-in_err-end-clause-sure : goal.returns-in_err-end-clause-sure
returns-in_err-end-clause-sure g c = λ sound free sure room.
    let given = surely_given_all g.W.ValueWriter.text c.args.directive.now c.args.used c.args.piece.now free c.args.column sound
    c.requires.ends sure in
    absurd (let h = c.in_err-end.ensures.answers given.0 (omega (arith, given.1, room)) in cc)

pub returns-clause-passes : goal.returns-clause-passes
returns-clause-passes g c = λ sound.
    passes_writing_all g.W.ValueWriter.text c.args.directive.now c.args.used c.args.piece.now c.args.column (take c.args.at c.args.room.now)
    (take c.in_ok-end.end c.write_given.new.room) sound c.requires.ends c.in_ok-end.ensures.passes c.in_ok-end.ensures.written
