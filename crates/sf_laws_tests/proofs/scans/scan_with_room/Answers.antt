use Rattle.sf_laws_tests.proofs.Rooms.{shown_within, read_within}
use Rattle.sf_laws_tests.proofs.scans.scan_with_room.Goals as goal

pub returns-clause-shown : goal.returns-clause-shown
returns-clause-shown g c sum t e =
    shown_within c.args.format.now 1000 t g.S.Source.to_come c.args.from.now c.fscan_over.new.from c.fscan_over.result
    (c.fscan_over.ensures.scan t e) (c.fscan_over.ensures.bounded sum)

pub returns-clause-read : goal.returns-clause-read
returns-clause-read g c sum =
    read_within c.args.format.now 1000 g.S.Source.to_come g.S.Source.reads g.row.N c.args.from.now c.fscan_over.new.from c.fscan_over.result
    c.fscan_over.ensures.made (c.fscan_over.ensures.bounded sum)
