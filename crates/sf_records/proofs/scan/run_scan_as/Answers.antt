use Rattle.std.proofs.Common.{subst}
use Rattle.sf_forms.specs.Heads.{Heading}
use Rattle.sf_forms.specs.makers.Forms.{writing_under}
use Rattle.sf_records.specs.Records.{Loops}
use Rattle.sf_records.proofs.scan.run_scan_as.Goals as goal

pub returns-clause-loops : goal.returns-clause-loops
returns-clause-loops g c t e =
    subst (λ (h : Heading). Loops (writing_under h 1 c.args.format.now) g.S.Source.to_come c.args.format.now c.args.limit t
    c.run_records.new.from (g.S.Source.failures c.args.from.now.source) (g.S.Source.failures c.run_records.new.from.source)
    (g.K.Sink.contents c.args.to.now) (g.K.Sink.contents c.run_records.new.to) c.run_records.result)
    c.new-maker.ensures (c.run_records.ensures.loops t e)
