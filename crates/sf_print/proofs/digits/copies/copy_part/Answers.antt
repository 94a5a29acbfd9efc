use Rattle.sf_print.proofs.DigitLemmas.EndsCopied.{lanes_put}
use Rattle.sf_print.proofs.digits.copies.copy_part.Goals as goal

pub returns-in-16 : goal.returns-in-16
returns-in-16 c = lanes_put c.args.at 16 c.args.buf.now c.args.bytes.now c.in-16.is c.requires

pub returns-in-8 : goal.returns-in-8
returns-in-8 c = lanes_put c.args.at 8 c.args.buf.now c.args.bytes.now c.in-8.is c.requires

pub returns-in-4 : goal.returns-in-4
returns-in-4 c = lanes_put c.args.at 4 c.args.buf.now c.args.bytes.now c.in-4.is c.requires
