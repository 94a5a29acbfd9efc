use Rattle.std.proofs.Common.{ap, subst, sym}
use Rattle.sf_forms.specs.makers.Forms.{writing_under}
use Rattle.sf_records.specs.Records.{Loops}
use Rattle.sf_command.specs.jobs.Commands.{Counts, answer_by}
use Rattle.sf_command.proofs.JobLemmas.Results.{always, not_err, records_count}
use Rattle.sf_command.proofs.jobs.scan_names.scan_under.Goals as goal

pub returns-in-Some : goal.returns-in-Some
returns-in-Some g c =
    let ds = c.args.format.now in
    let end = c.run_records.result in
    let before = g.K.Sink.failures c.write_header.new.to in
    let after = g.K.Sink.failures c.run_records.new.to in
    let counts = subst (λ fault. Counts before after (answer_by fault)) c.in-Some.is
    (records_count end.fault before after c.run_records.ensures.sink) in
    record {
      mid = c.write_header.new.to;
      wrote = c.write_header.result;
      header = c.write_header.ensures.written;
      failures = c.write_header.ensures.failures;
      scanned = always c.write_header.result _ (λ _. (
        counts,
        (
          end,
          ap answer_by (sym c.in-Some.is),
          λ t told. subst (λ heading. Loops (writing_under heading 1 ds) g.S.Source.to_come ds c.args.limit t c.run_records.new.from
              (g.S.Source.failures c.args.from.now.source) (g.S.Source.failures c.run_records.new.from.source)
              (g.K.Sink.contents c.write_header.new.to) (g.K.Sink.contents c.run_records.new.to) end) c.write_header.ensures.same
              (c.run_records.ensures.loops t told),
        ),
      ));
      stopped = not_err c.write_header.result c.in_default.field-0 c.in_default.is _;
    }
