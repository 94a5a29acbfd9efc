use Rattle.std.proofs.Common.{codes}
use Rattle.std.specs.Fmt.{decimal}
use Rattle.sf_arguments.specs.Names.{kind_text}
use Rattle.sf_messages.proofs.Lines.{three_texts}
use Rattle.sf_messages.proofs.wording.kinds_line.Goals as goal

pub returns : goal.returns
returns c =
    three_texts c.joined.result.bytes (codes "sf: print format: value ") (codes " is ") (codes ", the scan format gives ") (codes "\n")
    (decimal c.args.slot) (kind_text c.args.print) (kind_text c.args.scan)
    c.format-number.result.now c.kind_text-print.result.now c.kind_text-scan.result.now
    c.joined.ensures c.format-number.ensures.text c.kind_text-print.ensures c.kind_text-scan.ensures
