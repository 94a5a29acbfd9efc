use Rattle.std.proofs.Common.{codes}
use Rattle.std.specs.Fmt.{decimal}
use Rattle.sf_messages.proofs.Lines.{two_numbers}
use Rattle.sf_messages.proofs.wording.two_number_line.Goals as goal

pub returns : goal.returns
returns c =
    two_numbers c.joined.result.bytes c.args.front.now c.args.between.now (codes "\n") (decimal c.args.first) (decimal c.args.second)
    c.format-one.result.now c.format-other.result.now c.joined.ensures c.format-one.ensures.text c.format-other.ensures.text
