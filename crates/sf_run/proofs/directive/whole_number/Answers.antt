use Rattle.std.proofs.Common.{arith}
use Rattle.sf_base.specs.Data.{value_of}
use Rattle.sf_format.specs.declared.directive.Conversion.{Conversion}
use Rattle.sf_format.specs.Leads.{as_in_c}
use Rattle.sf_run.specs.Pieces.{IsWhole}
use Rattle.sf_run.proofs.Pieces.{integer_read}
use Rattle.sf_run.proofs.directive.whole_number.Goals as goal

pub returns-clause-answers : goal.returns-clause-answers
returns-clause-answers c proper ink n =
    let k : Conversion = c.args.conversion.now in
    let w = c.in_ok-whole.whole in
    let is : IsWhole k.shape k.width c.args.piece.now w =
    record { numeral = as_in_c c.args.base; is = c.requires.shape; ends = c.in_ok-whole.ensures } in
    let below = is.ends.behind in
    integer_read k c.requires.plain n c.args.piece.now w c.finish_number.result is (ink (omega (arith, below)))
    (λ text. c.finish_number.ensures.end text (value_of k.kind w.negative w.magnitude) c.number_of-number.ensures)
