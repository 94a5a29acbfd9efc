use Rattle.std.proofs.Common.{subst, sym}
use Rattle.sf_forms.specs.makers.Prints.{printing}
use Rattle.sf_command.specs.jobs.Heads.{is_headed, names_text}
use Rattle.sf_command.specs.line_jobs.Lines.{RunsLines, RunsWriting}
use Rattle.sf_command.proofs.line_jobs.lines.lines_by.Goals as goal

pub returns-in-Print : goal.returns-in-Print
returns-in-Print g c ds telling last says =
    let scan = c.args.scan.now in
    let order = scan.order.now in
    let ran = subst (λ units. RunsLines g.S.Source.to_come g.S.Source.failures g.K.Sink.contents g.K.Sink.failures g.C.Console.said
    g.C.Console.unsaid (λ number. printing units) scan.options
    order.limit scan.formats.now.ignored.now scan.formats.now.tried.now telling
    c.args.from.now c.lines_with.new.from c.args.out.now c.lines_with.new.out c.args.err.now c.lines_with.new.err c.lines_with.result)
    c.new-maker.ensures (c.lines_with.ensures ds telling last says) in
    subst (λ writing. RunsWriting g.S.Source.to_come g.S.Source.failures g.K.Sink.contents g.K.Sink.failures g.C.Console.said
    g.C.Console.unsaid order.tag (is_headed order.file) (names_text order) writing scan.options order.limit scan.formats.now.ignored.now
    scan.formats.now.tried.now telling c.args.from.now c.lines_with.new.from c.args.out.now c.lines_with.new.out c.args.err.now
    c.lines_with.new.err c.lines_with.result) (sym c.in-Print.is) ran
