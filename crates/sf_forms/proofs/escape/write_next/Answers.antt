use Rattle.std.proofs.Common.{◌+◌, ◌<◌, take, length, arith, ◌∙◌}
use Rattle.sf_forms.specs.Escapes.{escaped_in}
use Rattle.sf_forms.proofs.Filling.{byte_written}
use Rattle.sf_forms.proofs.escape.write_next.Goals as goal

pub returns-clause-written : goal.returns-clause-written
returns-clause-written c =
    let run = c.write_lanes-run in
    let some : c.args.done + run.result < length c.args.bytes.now = omega (arith, run.ensures.most, c.if-run-eq-LANES.false) in
    byte_written (escaped_in c.args.form) c.args.bytes.now (take (c.args.end + run.result) run.new.buf) _ (c.args.done + run.result) some
    c.write_escaped.ensures.written ∙ run.ensures.written
