use Rattle.std.proofs.Common.{◌∙◌, ap, subst, sym}
use Rattle.sf_forms.specs.makers.Works.{Makes}
use Rattle.sf_run.specs.Runs.{RunReport}
use Rattle.sf_run.specs.Views.{report_by}
use Rattle.sf_records.specs.by_lines.Turns.{fault_of}
use Rattle.sf_records.proofs.LinewiseLemmas.Choosing.{fits_seen, tries_seen}
use Rattle.sf_records.proofs.by_lines.judge.try_format.Goals as goal

pub returns-clause-tried : goal.returns-clause-tried
returns-clause-tried g c =
    let ds = c.args.format.now in
    let made = g.M.Maker.work c.args.maker.now c.args.format_number ds in
    let report : RunReport = report_by c.in-Some-seen.outcome c.seen.new.store.values in
    let none = ap (fault_of c.args.options.now c.args.line.now) (sym c.new-report.ensures) ∙ sym c.line_fault.ensures ∙ c.in_default.is in
    tries_seen c.args.options.now ds made c.args.line.now report (g.met.M.Maker.unmet c.args.maker.now c.args.format_number ds report)
    (fits_seen c.args.options.now ds c.args.line.now report c.in-Some-seen.ensures.ran none)
    (g.K.Sink.contents c.args.to.now) (g.K.Sink.contents c.write.new.to) c.write.result
    (subst (λ (r : RunReport). Makes made r (g.K.Sink.contents c.args.to.now) (g.K.Sink.contents c.write.new.to)
    c.write.result) c.new-report.ensures c.write.ensures.made)
