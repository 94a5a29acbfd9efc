use Rattle.std.proofs.Common.{arith}
use Rattle.sf_run.proofs.Pieces.{float_read}
use Rattle.sf_run.proofs.Stages.{no_width_plain}
use Rattle.sf_run.proofs.directive.real_by.Goals as goal

pub returns-clause-answers : goal.returns-clause-answers
returns-clause-answers c sound ink n =
    let own = c.in_ok-slot.ensures in
    let d = c.in_ok-decimal.decimal in
    let is = c.in_ok-decimal.ensures.numeral in
    let below = is.behind in
    float_read c.args.conversion.now c.args.piece.now d own.shape own.width is
    (no_width_plain c.args.conversion.now sound.1 own.width) n c.in_ok-slot.slot sound.0 own.slot
    (ink (omega (arith, below)))
