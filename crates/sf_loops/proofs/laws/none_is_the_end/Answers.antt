use Rattle.sf_read.specs.field.Rows.{slots_by}
use Rattle.sf_loops.proofs.LinesInTurn.{none_is_the_end}
use Rattle.sf_loops.proofs.laws.none_is_the_end.Goals as goal

pub returns : goal.returns
returns g c = none_is_the_end g.S.Source.to_come g.S.Source.reads g.S.Source.failures g.row.N g.T.Row.kinds
    (slots_by g.T.Row.given g.T.Row.listed)
