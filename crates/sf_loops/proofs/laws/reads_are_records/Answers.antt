use Rattle.sf_read.specs.field.Rows.{slots_by}
use Rattle.sf_loops.proofs.InTurn.{reads_are_records}
use Rattle.sf_loops.proofs.laws.reads_are_records.Goals as goal

pub returns : goal.returns
returns g c = reads_are_records g.S.Source.to_come g.S.Source.reads g.S.Source.failures g.row.N g.T.Row.kinds
    (slots_by g.T.Row.given g.T.Row.listed)
