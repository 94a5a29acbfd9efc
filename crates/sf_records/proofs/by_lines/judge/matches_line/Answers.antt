use Rattle.std.proofs.Common.{◌≡◌, ◌∙◌, ap, sym, false}
use Rattle.sf_run.specs.outcome.Ending.TheVariants.{End}
use Rattle.sf_run.specs.Runs.{RunReport}
use Rattle.sf_run.specs.Stopping.{is_memory_status}
use Rattle.sf_read.proofs.Ended.{told_within}
use Rattle.sf_records.specs.by_lines.Turns.{fault_of}
use Rattle.sf_records.proofs.LinewiseLemmas.Choosing.{matches_by}
use Rattle.sf_records.proofs.by_lines.judge.matches_line.Goals as goal

pub returns-2 : goal.returns-2
returns-2 c =
    let o = c.args.options.now in
    let line = c.args.line.now in
    let r : RunReport = c.in-Ok.scanned.report in
    let fine : is_memory_status r.status ≡ false = ap (λ (x : RunReport). is_memory_status x.status) (sym c.report-report.ensures)
    ∙ sym c.ran_out.ensures ∙ c.if-ran_out.false in
    matches_by o line c.args.format.now r (told_within c.args.format.now o.limit line End r c.in-Ok.ensures.report fine)
    c.line_fault-2.result (c.line_fault-2.ensures ∙ ap (fault_of o line) c.report-report.ensures) c.is_none-matches.result
    c.is_none-matches.ensures
