use Rattle.std.proofs.Common.{arith, ◌∙◌, sym}
use Rattle.sf_forms.proofs.Short.{all_quoted, plain_written, rest_length, rest_written_if}
use Rattle.sf_forms.proofs.quote.write_between.Goals as goal

pub returns-then-plain-bytes-clause-written : goal.returns-then-plain-bytes-clause-written
returns-then-plain-bytes-clause-written c =
    let xs = c.args.bytes.now in
    let front = c.write_front-plain in
    plain_written c.args.buf.now front.new.buf c.write_byte.new.buf xs c.args.at front.result c.write_byte.result
    c.if-plain-bytes.true front.ensures.written c.write_byte.ensures.written
    ∙ all_quoted _ xs (sym front.ensures.count ∙ c.if-plain-bytes.true)

pub returns-clause-written : goal.returns-clause-written
returns-clause-written c =
    let front = c.write_front-plain in
    rest_written_if c.write_rest.result c.args.buf.now front.new.buf c.write_rest.new.buf c.args.bytes.now c.args.at front.result
    (omega arith) front.ensures.within front.ensures.count front.ensures.written c.write_rest.ensures.written

pub returns-clause-answers : goal.returns-clause-answers
returns-clause-answers c room =
    let front = c.write_front-plain in
    c.write_rest.ensures.answers (omega (
      arith,
      room,
      rest_length c.args.bytes.now front.result front.ensures.within front.ensures.count,
      front.auto.buf,
    ))
