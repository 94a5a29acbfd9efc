use Rattle.std.proofs.Common.{arith, drop}
use Rattle.std.specs.List.{flat_map}
use Rattle.sf_forms.specs.Escapes.{escaped_in}
use Rattle.sf_forms.proofs.Filling.{all_written, come}
use Rattle.sf_forms.proofs.escape.write_each.Goals as goal

pub returns-clause-written : goal.returns-clause-written
returns-clause-written c =
    all_written (escaped_in c.args.form) c.args.bytes.now _ _ c.fill-done.result.0 (omega (arith, c.if-done-bytes.false))
    c.fill-done.ensures.written

pub returns-then-done-bytes-clause-answers : goal.returns-then-done-bytes-clause-answers
returns-then-done-bytes-clause-answers c room =
    let e = escaped_in c.args.form in
    let full = c.fill-done.ensures.full (omega (arith, c.if-done-bytes.true)) in
    absurd (omega (
      arith,
      room,
      full,
      come c.args.buf.now c.fill-done.new.buf (flat_map e (drop c.fill-done.result.0 c.args.bytes.now))
          (flat_map e c.args.bytes.now) c.args.at
          c.fill-done.result.1 c.requires c.fill-done.ensures.end c.fill-done.ensures.written,
    ))
