use Rattle.std.proofs.Common.{subst, true}
use Rattle.sf_command.specs.jobs.Heads.{due_header}
use Rattle.sf_forms.specs.makers.Forms.{writing_under}
use Rattle.sf_forms.specs.makers.Works.{Writes}
use Rattle.sf_command.specs.line_jobs.Lines.{RunsLines}
use Rattle.sf_command.proofs.JobLemmas.Results.{always, not_err}
use Rattle.sf_command.proofs.line_jobs.lines.lines_under.Goals as goal

pub returns : goal.returns
returns g c ds telling last says =
    let scan = c.args.scan.now in
    let order = scan.order.now in record {
      mid = c.write_header.new.to;
      wrote = c.write_header.result;
      header = subst (λ due. Writes true (due_header due c.args.maker.now) (g.K.Sink.contents c.args.out.now)
          (g.K.Sink.contents c.write_header.new.to) c.write_header.result) c.is_headed.ensures c.write_header.ensures.written;
      failures = c.write_header.ensures.failures;
      scanned = always c.write_header.result _
          (λ _. subst (λ heading. RunsLines g.S.Source.to_come g.S.Source.failures g.K.Sink.contents g.K.Sink.failures g.C.Console.said
          g.C.Console.unsaid (writing_under heading) scan.options
          order.limit scan.formats.now.ignored.now scan.formats.now.tried.now telling
          c.args.from.now c.lines_with.new.from c.write_header.new.to c.lines_with.new.out c.args.err.now c.lines_with.new.err
          c.lines_with.result) c.write_header.ensures.same (c.lines_with.ensures ds telling last says));
      stopped = not_err c.write_header.result c.in_default.field-0 c.in_default.is _;
    }
