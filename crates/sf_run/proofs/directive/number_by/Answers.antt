use Rattle.std.proofs.Common.{arith}
use Rattle.sf_item.specs.Wholes.{led_by}
use Rattle.sf_run.specs.Pieces.{IsWhole}
use Rattle.sf_run.proofs.Pieces.{integer_read}
use Rattle.sf_run.proofs.directive.number_by.Goals as goal

pub returns-clause-answers : goal.returns-clause-answers
returns-clause-answers c k own proper ink n =
    let w = c.in_ok-whole.whole in
    let is : IsWhole k.shape k.width c.args.piece.now w =
    record { numeral = led_by c.args.lead c.args.base; is = own.shape; ends = c.in_ok-whole.ensures k.width own.width } in
    let below = is.ends.behind in
    integer_read k own.plain n c.args.piece.now w c.finish_by.result is (ink (omega (arith, below)))
    (c.finish_by.ensures.end k own.kind own.slot)
