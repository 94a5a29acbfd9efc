use Rattle.std.proofs.Common.{◌∙◌, cond, sym, ap}
use Rattle.sf_print.specs.sink.Sinks.{counted_on}
use Rattle.sf_records.specs.by_lines.Turns.{work_of}
use Rattle.sf_records.proofs.LinewiseLemmas.Coming.{came_so, came_told, comes_failed, no_read_fault, no_sink_fault, sink_fault}
use Rattle.sf_records.proofs.by_lines.judge.judge_read.Goals as goal

pub returns-in-Is-clause-came : goal.returns-in-Is-clause-came
returns-in-Is-clause-came g c telling said =
    came_so (work_of c.args.options.now c.args.formats.now.ignored.now c.args.formats.now.tried.now
    (g.M.Maker.work c.args.maker.now) telling)
    c.args.number c.args.line.now
    (g.K.Sink.contents c.args.to.now) (g.K.Sink.contents c.try_each-tried.new.to) c.requires.counts c.requires.short c.requires.read
    (g.E.Teller.failed c.args.teller.now) (g.E.Teller.told c.args.teller.now) c.try_each-tried.result c.try_each-tried.ensures.tried
    (λ e. ap g.K.Sink.contents (c.try_each-tried.ensures.untouched e)) c.in-Is.judged (sym c.verdict_of.ensures ∙ c.in-Is.is)

pub returns-in-Is-clause-failures : goal.returns-in-Is-clause-failures
returns-in-Is-clause-failures g c = c.try_each-tried.ensures.failures
    ∙ ap (λ b. cond b (counted_on (g.K.Sink.failures c.args.to.now)) (g.K.Sink.failures c.args.to.now))
    (sink_fault c.args.options.now.matching c.try_each-tried.result c.in-Is.judged (sym c.verdict_of.ensures ∙ c.in-Is.is))

pub returns-in-Is-clause-read : goal.returns-in-Is-clause-read
returns-in-Is-clause-read g c = no_read_fault c.args.options.now.matching c.try_each-tried.result c.in-Is.judged
    (sym c.verdict_of.ensures ∙ c.in-Is.is)

pub returns-in-Fails-clause-came : goal.returns-in-Fails-clause-came
returns-in-Fails-clause-came g c telling said =
    let w = work_of c.args.options.now c.args.formats.now.ignored.now c.args.formats.now.tried.now
    (g.M.Maker.work c.args.maker.now) telling in
    let h = comes_failed w c.args.number c.args.line.now (g.K.Sink.contents c.args.to.now)
    (g.K.Sink.contents c.try_each-tried.new.to) c.requires.counts c.requires.short c.requires.read c.try_each-tried.result
    c.try_each-tried.ensures.tried (λ e. ap g.K.Sink.contents (c.try_each-tried.ensures.untouched e)) c.in-Fails.fault
    (sym c.verdict_of.ensures ∙ c.in-Fails.is) in
    came_told w c.args.number c.args.line.now c.args.line.now c.in-Fails.fault (g.K.Sink.contents c.args.to.now)
    (g.K.Sink.contents c.try_each-tried.new.to) (g.K.Sink.contents c.tell.new.to) (g.E.Teller.failed c.args.teller.now)
    (g.E.Teller.failed c.tell.new.teller) (g.E.Teller.told c.args.teller.now) (g.E.Teller.told c.tell.new.teller) c.requires.counts
    h.0 h.1 c.tell.ensures.taken c.tell.result (c.tell.ensures.told telling said)

pub returns-in-Fails-clause-failures : goal.returns-in-Fails-clause-failures
returns-in-Fails-clause-failures g c =
    c.tell.ensures.sink ∙ c.try_each-tried.ensures.failures
    ∙ ap (λ b. cond b (counted_on (g.K.Sink.failures c.args.to.now)) (g.K.Sink.failures c.args.to.now))
    (no_sink_fault c.args.options.now.matching c.try_each-tried.result c.in-Fails.fault (sym c.verdict_of.ensures ∙ c.in-Fails.is)
    ∙ sym c.tell.ensures.sound)
