use Rattle.std.proofs.Common.{drop, arith}
use Rattle.sf_forms.specs.Escapes.{escaped_in, stays}
use Rattle.sf_forms.proofs.Escaping.{stays_keeps}
use Rattle.sf_forms.proofs.Filling.{kept_front, lanes_written}
use Rattle.sf_forms.proofs.escape.write_lanes.Goals as goal

pub returns-clause-written : goal.returns-clause-written
returns-clause-written c =
    let form = c.args.form in
    let bytes = c.args.bytes.now in
    let run = c.kept_run-run in
    lanes_written (escaped_in form) bytes c.args.buf.now c.copy_over.new.buf _ c.args.done c.args.end run.result c.requires.lanes
    (omega (arith, c.requires.room)) run.ensures.most c.copy_over.ensures
    (kept_front (escaped_in form) (stays form) (stays_keeps form) (drop c.args.done bytes) run.result run.ensures.kept)
