use Rattle.sf_run.specs.Written.{IsRecord}
use Rattle.sf_run.proofs.Writing.{after_front}
use Rattle.sf_run.proofs.written.write_after.Goals as goal

pub returns-clause-written : goal.returns-clause-written
returns-clause-written g c =
    after_front (IsRecord g.W.ValueWriter.whole c.args.format.now c.args.limit c.args.piece.now) c.args.room.now
    c.write_record.new.room c.args.end c.write_record.result c.requires c.write_record.ensures.place c.write_record.ensures.written
