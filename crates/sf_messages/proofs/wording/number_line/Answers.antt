use Rattle.std.proofs.Common.{codes}
use Rattle.std.specs.Fmt.{decimal}
use Rattle.sf_messages.proofs.Lines.{number_between}
use Rattle.sf_messages.proofs.wording.number_line.Goals as goal

pub returns : goal.returns
returns c =
    number_between c.joined.result.bytes c.args.front.now c.args.back.now (codes "\n") (decimal c.args.number)
    c.format-place.result.now c.joined.ensures c.format-place.ensures.text
