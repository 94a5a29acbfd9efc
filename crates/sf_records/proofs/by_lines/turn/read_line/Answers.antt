use Rattle.std.proofs.Common.{◌∙◌, ℕ, List, [], cond, refl, sym, ap, subst, append-nil}
use Rattle.sf_print.specs.sink.Sinks.{counted_on}
use Rattle.sf_records.specs.by_lines.Coming.{Came, is_read_fault}
use Rattle.sf_read.specs.line.Reading.{is_failed}
use Rattle.sf_records.specs.by_lines.Turns.{work_of}
use Rattle.sf_records.proofs.LinewiseLemmas.Coming.{turned}
use Rattle.sf_records.proofs.by_lines.turn.read_line.Goals as goal

-- the line is lent twice, with the same bytes
pub judge-requires-clause-front : goal.judge-requires-clause-front
judge-requires-clause-front g c =
    ([], c.deref-in-Line.ensures.value ∙ sym c.deref.ensures.value ∙ sym (append-nil c.deref.result.now))

pub returns-in-Line-clause-turns : goal.returns-in-Line-clause-turns
returns-in-Line-clause-turns g c telling said =
    let w = work_of c.args.options.now c.args.formats.now.ignored.now c.args.formats.now.tried.now
    (g.M.Maker.work c.args.maker.now) telling in
    let (took, short) = rw c.in-Line.is at c.read_front-read.ensures.reads in
    turned g.S.Source.to_come c.args.from.now c.read_front-read.new.from w c.args.number _ _ _ _ _ _ c.read_front-read.new.line.items
    took short
    c.judge.result
    (subst (λ (y : List ℕ). Came w c.args.number y (g.K.Sink.contents c.args.to.now) (g.K.Sink.contents c.judge.new.to)
    (g.E.Teller.failed c.args.teller.now) (g.E.Teller.failed c.judge.new.teller) (g.E.Teller.told c.args.teller.now)
    (g.E.Teller.told c.judge.new.teller) c.judge.result)
    c.deref.ensures.value (c.judge.ensures.came telling said))

pub returns-in-Line-clause-source : goal.returns-in-Line-clause-source
returns-in-Line-clause-source g c =
    c.read_front-read.ensures.failures
    ∙ ap (λ b. cond b (counted_on (g.S.Source.failures c.args.from.now.source)) (g.S.Source.failures c.args.from.now.source))
    (ap is_failed c.in-Line.is ∙ sym c.judge.ensures.read)

pub returns-in-TooLong-clause-turns : goal.returns-in-TooLong-clause-turns
returns-in-TooLong-clause-turns g c telling said =
    let w = work_of c.args.options.now c.args.formats.now.ignored.now c.args.formats.now.tried.now
    (g.M.Maker.work c.args.maker.now) telling in
    let (part, lost, open', long, front) = rw c.in-TooLong.is at c.read_front-read.ensures.reads in
    c.tell_long.ensures.turns w refl said c.args.from.now part lost open' long front

pub returns-in-TooLong-clause-source : goal.returns-in-TooLong-clause-source
returns-in-TooLong-clause-source g c =
    c.tell_long.ensures.source
    ∙ ap (λ n. cond (is_read_fault c.tell_long.result) (counted_on n) n)
    (c.read_front-read.ensures.failures
    ∙ ap (λ b. cond b (counted_on (g.S.Source.failures c.args.from.now.source)) (g.S.Source.failures c.args.from.now.source))
    (ap is_failed c.in-TooLong.is))

pub returns-in-TooLong-clause-sink : goal.returns-in-TooLong-clause-sink
returns-in-TooLong-clause-sink g c = c.tell_long.ensures.sink ∙ ap (λ b. cond b (counted_on (g.K.Sink.failures c.args.to.now))
    (g.K.Sink.failures c.args.to.now))
    (sym c.tell_long.ensures.sound)
