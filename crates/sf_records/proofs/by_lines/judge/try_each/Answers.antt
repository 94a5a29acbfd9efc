use Rattle.std.proofs.Common.{ℕ, ◌+◌, ◌∙◌, List, cond, ap, subst}
use Rattle.sf_format.specs.declared.directive.Directive.{Directive}
use Rattle.sf_forms.specs.makers.Works.{Work}
use Rattle.sf_print.specs.sink.Sinks.{counted_on}
use Rattle.sf_records.specs.by_lines.Judging.{Tries, is_matched, is_unwritten}
use Rattle.sf_records.specs.by_lines.Turns.{Misses}
use Rattle.sf_records.proofs.LinewiseLemmas.Choosing.{all_more, each_of, misses}
use Rattle.sf_records.proofs.by_lines.judge.try_each.Goals as goal

pub returns-in_default : goal.returns-in_default
returns-in_default g c =
    let l = c.loop-before in
    let makes = g.M.Maker.work c.args.maker.now in
    let same = ap g.K.Sink.contents l.invariant.sink in
    record {
      same = c.try_format-tried.ensures.same ∙ l.invariant.same;
      tried = each_of c.args.options.now c.args.formats.now makes c.args.line.now (g.K.Sink.contents c.args.to.now)
          (g.K.Sink.contents c.try_format-tried.new.to) c.index-formats-before.result l.before c.loop-before-test.true
          c.index-formats-before.is
          l.invariant.missed c.try_format-tried.result (λ fault is. absurd (c.in_default.not-Missed fault is))
          (subst (λ old. Tries c.args.options.now c.index-formats-before.result (makes (l.before + 1) c.index-formats-before.result)
          c.args.line.now old (g.K.Sink.contents c.try_format-tried.new.to) c.try_format-tried.result) same
          (subst (λ (m : ℕ → List Directive → Work). Tries c.args.options.now c.index-formats-before.result
          (m (l.before + 1) c.index-formats-before.result) c.args.line.now (g.K.Sink.contents l.to)
          (g.K.Sink.contents c.try_format-tried.new.to) c.try_format-tried.result) l.invariant.same
          c.try_format-tried.ensures.tried));
      failures = c.try_format-tried.ensures.failures ∙ ap (λ n. cond (is_unwritten c.try_format-tried.result) (counted_on n) n)
          (ap g.K.Sink.failures l.invariant.sink);
      untouched = λ e. c.try_format-tried.ensures.untouched e ∙ l.invariant.sink;
    }

pub loop-before-preserved : goal.loop-before-preserved
loop-before-preserved g c =
    let l = c.loop-before in
    record {
      missed = all_more (Misses c.args.options.now c.args.line.now) c.args.formats.now l.before c.index-formats-before.result
          c.loop-before-test.true c.index-formats-before.is l.invariant.missed
          (misses c.args.options.now c.index-formats-before.result (g.M.Maker.work l.maker (l.before + 1) c.index-formats-before.result)
          c.args.line.now (g.K.Sink.contents l.to) (g.K.Sink.contents c.try_format-tried.new.to) c.in-Missed.fault
          (rw c.in-Missed.is at c.try_format-tried.ensures.tried));
      same = c.try_format-tried.ensures.same ∙ l.invariant.same;
      sink = c.try_format-tried.ensures.untouched (ap is_matched c.in-Missed.is) ∙ l.invariant.sink;
    }
