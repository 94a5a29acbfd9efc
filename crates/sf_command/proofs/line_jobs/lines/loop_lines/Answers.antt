use Rattle.std.proofs.Common.{◌≡◌, Bool, subst}
use Rattle.sf_records.specs.by_lines.Loops.{TellsLines}
use Rattle.sf_records.specs.by_lines.Telling.{faults_by}
use Rattle.sf_command.specs.line_jobs.Lines.{scanning}
use Rattle.sf_command.proofs.LineJobLemmas.Lining.{counts_by}
use Rattle.sf_command.proofs.line_jobs.lines.loop_lines.Goals as goal

pub returns-clause-runs : goal.returns-clause-runs
returns-clause-runs g c telling says =
    let end = c.run_lines-end.result in
    let before = c.args.notes.now in
    let after = c.run_lines-end.new.teller in
    let ignored = c.args.formats.now.ignored.now in
    let tried = c.args.formats.now.tried.now in
    record {
      end = end;
      mute = after.failed;
      tells = λ t is.
          subst (λ (failed : Bool).
          TellsLines (scanning (g.M.Maker.work c.args.maker.now) c.args.options c.args.limit ignored tried telling) g.S.Source.to_come t
          c.run_lines-end.new.from (g.S.Source.failures c.args.from.now.source)
          (g.S.Source.failures c.run_lines-end.new.from.source) (g.K.Sink.contents c.args.out.now)
          (g.K.Sink.contents c.run_lines-end.new.to) failed after.failed
          (g.C.Console.said before.err.now) (g.C.Console.said after.err.now) end) c.requires.fresh
          (c.run_lines-end.ensures.tells telling t says is);
      faults = subst (λ (failed : Bool). g.C.Console.unsaid after.err.now
          ≡ faults_by failed after.failed (g.C.Console.unsaid before.err.now)) c.requires.fresh c.run_lines-end.ensures.faults;
      status = c.run_lines-end.ensures.status;
      answers = c.answer_by.ensures;
      failures = counts_by end.status end.fault c.answer_by.result (g.K.Sink.failures c.args.out.now)
          (g.K.Sink.failures c.run_lines-end.new.to) c.run_lines-end.ensures.sink c.answer_by.ensures;
    }
