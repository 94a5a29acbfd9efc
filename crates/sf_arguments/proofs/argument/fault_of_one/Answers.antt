use Rattle.std.proofs.Common.{arith}
use Rattle.sf_arguments.proofs.Reading.{one_read}
use Rattle.sf_arguments.proofs.argument.fault_of_one.Goals as goal

pub returns-in-Ok-eq1-clause-none : goal.returns-in-Ok-eq1-clause-none
returns-in-Ok-eq1-clause-none c =
    let read = c.in-Ok-eq1.ensures.count in
    one_read c.args.how c.args.conv.now.kind c.args.word.now c.as_bytes.result.now read.0 c.as_bytes.ensures.value read.1
    (omega (arith, read.2, c.in-Ok-eq1.field-0-is))
