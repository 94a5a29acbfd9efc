use Rattle.std.proofs.Common.{arith}
use Rattle.sf_run.specs.Views.{report_by}
use Rattle.sf_run.proofs.Told as told
use Rattle.sf_records.proofs.LinewiseLemmas.Holding.{done_on, done_whole, early_on, used_alone}
use Rattle.sf_records.proofs.by_lines.judge.seen.Goals as goal

pub returns-then-used-line-clause-answers : goal.returns-then-used-line-clause-answers
returns-then-used-line-clause-answers c = λ is.
    let alone = used_alone c.args.options.now c.args.format.now c.requires.proper c.args.line.now c.args.ended.now
    (report_by c.in_ok-outcome.outcome c.sure_run.new.store.values) c.in_ok-outcome.ensures.run
    told.one_report _ is in
    absurd (omega (arith, alone, c.if-used-line.true))

pub returns-else-used-line-clause-ran : goal.returns-else-used-line-clause-ran
returns-else-used-line-clause-ran c =
    done_on c.args.options.now c.args.format.now c.requires.proper c.args.line.now c.args.ended.now
    (report_by c.in_ok-outcome.outcome c.sure_run.new.store.values) c.in_ok-outcome.ensures.run
    c.done_runs_stay.ensures c.requires.front c.in-Done.is (omega (arith, c.if-used-line.false))

pub returns-then-used-line-2-clause-answers : goal.returns-then-used-line-2-clause-answers
returns-then-used-line-2-clause-answers c = λ is.
    absurd (c.in_default.not-Done (done_whole c.args.options.now c.args.format.now c.requires.proper c.args.line.now c.args.ended.now
    (report_by c.in_ok-outcome.outcome c.sure_run.new.store.values) c.in_ok-outcome.ensures.run
    told.one_report _ is (omega (arith, c.if-used-line-2.true))))

pub returns-else-used-line-2-clause-ran : goal.returns-else-used-line-2-clause-ran
returns-else-used-line-2-clause-ran c =
    early_on c.args.options.now c.args.format.now c.requires.proper c.args.line.now c.args.ended.now
    (report_by c.in_ok-outcome.outcome c.sure_run.new.store.values) c.in_ok-outcome.ensures.run
    c.early_runs_stay.ensures c.requires.front (omega (arith, c.if-used-line-2.false))
