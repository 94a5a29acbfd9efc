use Rattle.std.proofs.Common.{arith}
use Rattle.sf_records.proofs.InPlaceTexts.{follows_at_first}
use Rattle.sf_records.proofs.in_place.FormRunsWritesInPlace.write_in.Goals as goal

pub returns-then-runs-eq0-clause-answers : goal.returns-then-runs-eq0-clause-answers
returns-then-runs-eq0-clause-answers c surely =
    let runs = c.write_runs_in-runs in
    absurd (runs.ensures.answers (omega (arith, surely.0, c.if-runs-eq0.true))
    (follows_at_first _ 22 _ c.args.self.now.format.now c.args.self.now.limit c.args.self.now.piece.now runs.result.records
    runs.result.used runs.result.end c.args.room.now runs.new.room c.if-runs-eq0.true runs.ensures.runs runs.ensures.place runs.auto.room
    surely.1))
