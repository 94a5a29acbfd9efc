use Rattle.sf_records.specs.by_lines.InPlace.{IsLineRecord}
use Rattle.sf_records.proofs.LinewiseLemmas.InPlace.{after_front}
use Rattle.sf_records.proofs.by_lines.in_place.write_after.Goals as goal

pub returns-clause-written : goal.returns-clause-written
returns-clause-written c =
    after_front (IsLineRecord c.args.form c.args.format.now c.args.options.now c.args.piece.now) c.args.room.now
    c.write_line.new.room c.args.end c.write_line.result c.requires c.write_line.ensures.place c.write_line.ensures.written
