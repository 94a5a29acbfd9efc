use Rattle.std.proofs.Common.{arith}
use Rattle.sf_records.proofs.LinewiseLemmas.InPlace.{follows_at_first}
use Rattle.sf_records.proofs.by_lines.in_place.LineRunsWritesInPlace.write_in.Goals as goal

pub returns-then-runs-eq0-clause-answers : goal.returns-then-runs-eq0-clause-answers
returns-then-runs-eq0-clause-answers c surely =
    let runs = c.write_each-runs in
    let self = c.args.self.now in
    absurd (runs.ensures.answers (omega (arith, surely.0, c.if-runs-eq0.true))
    (follows_at_first self.form self.format.now self.options.now self.piece.now runs.result.lines runs.result.used runs.result.end
    c.args.room.now runs.new.room c.if-runs-eq0.true runs.ensures.runs runs.ensures.place runs.auto.room surely.1))
