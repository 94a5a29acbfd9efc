use Rattle.sf_read.specs.field.Rows.{slots_by}
use Rattle.sf_loops.proofs.LinesInTurn.{answers_are_lines}
use Rattle.sf_loops.proofs.laws.answers_are_lines.Goals as goal

pub returns : goal.returns
returns g c = answers_are_lines g.S.Source.to_come g.S.Source.reads g.S.Source.failures g.row.N g.T.Row.kinds
    (slots_by g.T.Row.given g.T.Row.listed)
