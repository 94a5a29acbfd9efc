use Rattle.std.proofs.Common.{sym}
use Rattle.sf_records.specs.by_lines.Turns.{Misses, used_whole}
use Rattle.sf_records.proofs.LinewiseLemmas.Choosing.{all_more, all_taken, matched_so, missed_so}
use Rattle.sf_records.proofs.by_lines.judge.is_ignored.Goals as goal

pub returns-then-matches : goal.returns-then-matches
returns-then-matches c = (
  c.format-item.result,
  (c.loop-format.format-index, c.loop-format-test.true, sym c.format-item.is),
  matched_so (used_whole c.args.options.now) c.args.line.now c.format-item.result c.in_ok-matches.matches c.if-matches.true
      c.in_ok-matches.ensures,
)

pub loop-format-preserved : goal.loop-format-preserved
loop-format-preserved c =
    let o = used_whole c.args.options.now in
    all_more (Misses o c.args.line.now) c.args.ignored.now c.loop-format.format-index c.format-item.result c.loop-format-test.true
    c.format-item.is c.loop-format.invariant
    (missed_so o c.args.line.now c.format-item.result c.in_ok-matches.matches c.if-matches.false c.in_ok-matches.ensures)

pub returns : goal.returns
returns c = all_taken (Misses (used_whole c.args.options.now) c.args.line.now) c.args.ignored.now c.loop-format.format-index
    c.loop-format-test.false c.loop-format.invariant
