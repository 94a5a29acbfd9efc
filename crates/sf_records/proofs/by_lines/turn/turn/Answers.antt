use Rattle.std.proofs.Common.{◌+◌, arith}
use Rattle.sf_records.specs.by_lines.Turns.{work_of}
use Rattle.sf_records.proofs.LinewiseLemmas.Coming.{turned_skipped}
use Rattle.sf_records.proofs.by_lines.turn.turn.Goals as goal

pub returns-then-before-options-clause-turns : goal.returns-then-before-options-clause-turns
returns-then-before-options-clause-turns g c telling said =
    turned_skipped g.S.Source.to_come c.args.from.now c.pass_line.new.from
    (work_of c.args.options.now c.args.formats.now.ignored.now c.args.formats.now.tried.now (g.M.Maker.work c.args.maker.now) telling)
    (c.args.before + 1)
    (g.K.Sink.contents c.args.to.now) (g.E.Teller.failed c.args.teller.now) (g.E.Teller.told c.args.teller.now)
    (omega (arith, c.if-before-options.true)) c.pass_line.result c.pass_line.ensures.passes
