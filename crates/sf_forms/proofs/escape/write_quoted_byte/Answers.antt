use Rattle.std.proofs.Common.{arith}
use Rattle.sf_forms.proofs.Filling.{part_written}
use Rattle.sf_forms.proofs.escape.write_quoted_byte.Goals as goal

pub returns-clause-written : goal.returns-clause-written
returns-clause-written c =
    part_written c.args.buf.now c.copy_over.new.buf c.quoted_byte-len.result.0 _ _ c.args.at c.quoted_byte-len.result.1
    (omega arith) (omega arith) c.copy_over.ensures c.quoted_byte-len.ensures.text
