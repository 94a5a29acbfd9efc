use Rattle.sf_item.proofs.Pieces.{part_taken, part_each, part_stops}
use Rattle.sf_item.proofs.item.ItemScan.take_run.Goals as goal

pub returns-clause-taken : goal.returns-clause-taken
returns-clause-taken c =
    part_taken c.args.self.now c.args.piece.now c.cut.result.now c.read_all-count.result c.read_all-count.new.reading c.less-self.result
    c.cut.ensures.front c.read_all-count.ensures.within c.less-self.ensures c.read_all-count.ensures.read

pub returns-clause-each : goal.returns-clause-each
returns-clause-each c =
    part_each c.args.self.now c.args.piece.now c.cut.result.now c.read_all-count.result c.read_all-count.new.reading c.less-self.result
    c.cut.ensures.front c.read_all-count.ensures.within c.less-self.ensures c.read_all-count.ensures.read

pub returns-clause-stops : goal.returns-clause-stops
returns-clause-stops c =
    part_stops c.args.self.now c.args.piece.now c.cut.result.now c.read_all-count.result c.read_all-count.new.reading c.less-self.result
    c.cut.ensures.front c.read_all-count.ensures.within c.less-self.ensures c.read_all-count.ensures.read
    c.read_all-count.ensures.stops c.cut.ensures.whole
