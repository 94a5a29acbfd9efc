use Rattle.std.proofs.Common.{subst}
use Rattle.sf_command.specs.entry.Programs.{Closes}
use Rattle.sf_command.proofs.entry.program.run_open.Goals as goal

pub returns : goal.returns
returns g c = (
  c.run_asked_inputs-ended.new.output,
  (
    c.close-status.new.output,
    (
      c.run_asked_inputs-ended.new.errors,
      (
        c.run_asked_inputs-ended.result,
        c.run_asked_inputs-ended.ensures,
        subst (λ explain. Closes g.W.Write g.E.Write c.args.watched explain c.run_asked_inputs-ended.new.output
            c.close-status.new.output c.run_asked_inputs-ended.new.errors c.close-status.new.errors c.run_asked_inputs-ended.result
            c.close-status.result) c.is_explained_by.ensures c.close-status.ensures,
        c.into_writer.ensures,
      ),
    ),
  ),
)
