use Rattle.sf_arguments.proofs.Reading.{text_read}
use Rattle.sf_arguments.proofs.argument.fault_of_text.Goals as goal

pub returns-in-Ok-clause-none : goal.returns-in-Ok-clause-none
returns-in-Ok-clause-none c =
    let read = c.in-Ok.ensures.count in
    text_read c.args.how c.args.conv.now.kind c.args.word.now c.as_bytes.result.now read.0 c.as_bytes.ensures.value read.1
