use Rattle.sf_read.specs.field.Rows.{slots_by}
use Rattle.sf_loops.proofs.Counting.{records_are_counted}
use Rattle.sf_loops.proofs.laws.records_are_counted.Goals as goal

pub returns : goal.returns
returns g c = records_are_counted g.S.Source.to_come g.S.Source.reads g.S.Source.failures g.row.N g.T.Row.kinds
    (slots_by g.T.Row.given g.T.Row.listed)
