use Rattle.std.proofs.Common.{◌++◌}
use Rattle.std.specs.Prelude.{option_map}
use Rattle.sf_command.specs.console.Fronts.{in_front}
use Rattle.sf_command.proofs.ConsoleLemmas.Saying.{said}
use Rattle.sf_command.proofs.console.error_output.tell.Goals as goal

pub returns : goal.returns
returns g c = (
  c.write_told.ensures.hands,
  said g.C.Console.said g.C.Console.unsaid c.write_told.result
      (in_front (option_map (λ given. given.now) c.args.file) c.args.line.now ++ c.args.notes.now) c.args.err.now c.write_told.new.err
      c.write_told.ensures.told c.write_told.ensures.faults,
)
