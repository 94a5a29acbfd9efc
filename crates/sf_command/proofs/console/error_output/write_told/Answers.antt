use Rattle.std.proofs.Common.{false, subst}
use Rattle.std.specs.Prelude.{option_map}
use Rattle.sf_records.specs.by_lines.Telling.{Tells}
use Rattle.sf_records.proofs.LinewiseLemmas.Telling.{tells_then}
use Rattle.sf_command.specs.console.Fronts.{in_front}
use Rattle.sf_command.proofs.ConsoleLemmas.Saying.{written}
use Rattle.sf_command.proofs.console.error_output.write_told.Goals as goal

pub returns-else-write_line-clause-told : goal.returns-else-write_line-clause-told
returns-else-write_line-clause-told g c =
    let line = in_front (option_map (λ given. given.now) c.args.file) c.args.line.now in
    let before = g.C.Console.said c.args.err.now in
    let mid = g.C.Console.said c.write_line.new.err in
    tells_then false false _ before mid (g.C.Console.said c.write.new.err) line c.args.notes.now
    (subst (λ r. Tells false r before mid line) c.if-write_line.false c.write_line.ensures.told)
    (written c.write.result _ mid (g.C.Console.said c.write.new.err) c.args.notes.now c.is_err.ensures.value c.write.ensures.took
    c.write.ensures.failed)
