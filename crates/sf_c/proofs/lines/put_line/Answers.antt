use Rattle.std.proofs.Common.{arith}
use Rattle.sf_run.specs.Views.{report_by}
use Rattle.sf_c.proofs.Taking.{line_taken}
use Rattle.sf_c.proofs.lines.put_line.Goals as goal

pub returns-clause-line : goal.returns-clause-line
returns-clause-line c =
    let (row, behind, cells) = c.put_textless.ensures.row c.if-not-put_textless.false in (
      row,
      behind,
      line_taken c.args.format.now c.destinations-slots.ensures.proper c.args.limit c.args.text.now c.run_before-len.result
          (report_by c.in_ok-outcome.outcome c.quick_run.new.store.values) row c.done_runs_stay.ensures c.in_ok-outcome.ensures.run
          c.in_ok-outcome.ensures.done c.run_before-len.ensures (omega (arith, c.if-len-text.false))
          (omega (arith, c.if-outcome-len.false)) (omega (arith, c.if-len-limit.false)) cells,
    )
