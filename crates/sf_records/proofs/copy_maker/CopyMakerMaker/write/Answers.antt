use Rattle.std.proofs.Common.{subst}
use Rattle.sf_forms.specs.makers.Works.{Makes}
use Rattle.sf_pair.specs.Formats.{Formats}
use Rattle.sf_records.specs.Copies.{copying}
use Rattle.sf_records.proofs.copy_maker.CopyMakerMaker.write.Goals as goal

pub returns-clause-made : goal.returns-clause-made
returns-clause-made g c =
    subst (λ (p : Formats). Makes (copying p.print p.scan) c.args.report.now (g.K.Sink.contents c.args.to.now)
    (g.K.Sink.contents c.copy_record.new.to) c.copy_record.result) c.self.view_is c.copy_record.ensures.made
