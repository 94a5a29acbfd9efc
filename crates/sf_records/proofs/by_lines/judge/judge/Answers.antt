use Rattle.sf_print.proofs.Appending.{Appends-none}
use Rattle.sf_records.specs.by_lines.Turns.{work_of}
use Rattle.sf_records.proofs.LinewiseLemmas.Choosing.{ignored_so, read_so}
use Rattle.sf_records.proofs.LinewiseLemmas.Coming.{came_ignored, came_refused}
use Rattle.sf_records.proofs.by_lines.judge.judge.Goals as goal

pub judge_read-requires : goal.judge_read-requires
judge_read-requires g c = record {
  front = c.requires.front;
  proper = c.requires.proper;
  short = c.requires.short;
  counts = c.requires.counts;
  read = read_so c.args.options.now c.args.line.now c.args.formats.now.ignored.now c.in-Ok-false.field-0 c.in-Ok-false.field-0-test
      c.in-Ok-false.ensures;
}

pub returns-in-Ok-true-clause-came : goal.returns-in-Ok-true-clause-came
returns-in-Ok-true-clause-came g c telling said =
    came_ignored
    (work_of c.args.options.now c.args.formats.now.ignored.now c.args.formats.now.tried.now (g.M.Maker.work c.args.maker.now) telling)
    c.args.number c.args.line.now
    (g.K.Sink.contents c.args.to.now) (g.K.Sink.contents c.args.to.now) c.requires.counts c.requires.short
    (g.E.Teller.failed c.args.teller.now) (g.E.Teller.told c.args.teller.now)
    (ignored_so c.args.options.now c.args.line.now c.args.formats.now.ignored.now c.in-Ok-true.field-0 c.in-Ok-true.field-0-test
    c.in-Ok-true.ensures)

pub returns-in-Err-clause-came : goal.returns-in-Err-clause-came
returns-in-Err-clause-came g c telling said =
    came_refused
    (work_of c.args.options.now c.args.formats.now.ignored.now c.args.formats.now.tried.now (g.M.Maker.work c.args.maker.now) telling)
    c.args.number c.args.line.now
    (g.K.Sink.contents c.args.to.now) (g.K.Sink.contents c.args.to.now) c.requires.counts c.requires.short
    (g.E.Teller.failed c.args.teller.now) (g.E.Teller.told c.args.teller.now) (Appends-none (g.K.Sink.contents c.args.to.now))
