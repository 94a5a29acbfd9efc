use Rattle.std.proofs.Common.{ap, string_bytes, subst, sym}
use Rattle.std.specs.Prelude.{option_map}
use Rattle.sf_forms.specs.makers.Forms.{writing_under}
use Rattle.sf_command.specs.jobs.Heads.{is_headed}
use Rattle.sf_command.specs.line_jobs.Lines.{RunsForm, RunsLines}
use Rattle.sf_command.proofs.line_jobs.lines.lines_in_form.Goals as goal

pub returns-in-None : goal.returns-in-None
returns-in-None g c ds telling last says =
    let scan = c.args.scan.now in
    let order = scan.order.now in
    let ran = subst (λ heading. RunsLines g.S.Source.to_come g.S.Source.failures g.K.Sink.contents g.K.Sink.failures g.C.Console.said
    g.C.Console.unsaid (writing_under heading) scan.options
    order.limit scan.formats.now.ignored.now scan.formats.now.tried.now telling c.args.from.now
    c.lines_with.new.from c.args.out.now c.lines_with.new.out c.args.err.now c.lines_with.new.err c.lines_with.result)
    c.headed-maker.ensures (c.lines_with.ensures ds telling last says) in
    subst (λ names. RunsForm g.S.Source.to_come g.S.Source.failures g.K.Sink.contents g.K.Sink.failures g.C.Console.said
    g.C.Console.unsaid c.args.form order.tag (is_headed order.file) names scan.options order.limit scan.formats.now.ignored.now
    scan.formats.now.tried.now
    telling c.args.from.now c.lines_with.new.from c.args.out.now c.lines_with.new.out c.args.err.now c.lines_with.new.err
    c.lines_with.result) (sym (ap (option_map string_bytes) c.in-None.is)) ran
