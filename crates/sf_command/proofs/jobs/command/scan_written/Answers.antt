use Rattle.std.proofs.Common.{ap, subst, sym}
use Rattle.std.specs.Prelude.{option_map, string_bytes}
use Rattle.sf_command.specs.jobs.Commands.{ScansAs, ScansByNames}
use Rattle.sf_command.specs.jobs.Heads.{is_headed, names_text}
use Rattle.sf_command.specs.jobs.Writings.{IsWriting}
use Rattle.sf_command.proofs.JobLemmas.Working.{written_named, written_plain, written_print}
use Rattle.sf_command.proofs.jobs.command.scan_written.Goals as goal

pub returns-in-Print : goal.returns-in-Print
returns-in-Print g c profile form word is scans =
    let order = c.args.order.now in
    let given = option_map string_bytes order.print in
    written_print g.S.Source.to_come g.S.Source.failures g.K.Sink.contents g.K.Sink.failures profile order.strict form c.in-Print.print
    (is_headed order.file) (names_text order) given order.limit word c.args.scan.now
    (subst (IsWriting profile form given) c.in-Print.is is) scans c.args.from.now c.scan_print_by.new.from c.args.out.now
    c.scan_print_by.new.out c.scan_print_by.result c.scan_print_by.ensures.scans c.scan_print_by.ensures.unread
    c.scan_print_by.ensures.failures

pub returns-in-None : goal.returns-in-None
returns-in-None g c profile form word is scans =
    let order = c.args.order.now in
    let given = option_map string_bytes order.print in
    subst (λ names. ScansAs g.S.Source.to_come g.S.Source.failures g.K.Sink.contents g.K.Sink.failures order.strict profile form
    (is_headed order.file) names given order.limit word c.args.from.now c.scan_by.new.from c.args.out.now c.scan_by.new.out
    c.scan_by.result) (sym (ap (option_map string_bytes) c.in-None.is))
    (written_plain g.S.Source.to_come g.S.Source.failures g.K.Sink.contents g.K.Sink.failures profile order.strict form c.in-Form.form
    (is_headed order.file) given order.limit word c.args.scan.now (subst (IsWriting profile form given) c.in-Form.is is) scans
    c.args.from.now c.scan_by.new.from c.args.out.now c.scan_by.new.out c.scan_by.result c.scan_by.ensures.scans
    c.scan_by.ensures.unread c.scan_by.ensures.failures)

pub returns-in-Some : goal.returns-in-Some
returns-in-Some g c profile form word is scans =
    let order = c.args.order.now in
    let given = option_map string_bytes order.print in
    let ds = c.args.scan.now.format in
    let by_text = subst (λ text. ScansByNames g.S.Source.to_come g.S.Source.failures g.K.Sink.contents g.K.Sink.failures c.in-Form.form
    c.is_headed.result text order.limit ds c.args.from.now c.scan_named.new.from c.args.out.now c.scan_named.new.out
    c.scan_named.result) c.as_str.ensures.value c.scan_named.ensures in
    let named = subst (λ due. ScansByNames g.S.Source.to_come g.S.Source.failures g.K.Sink.contents g.K.Sink.failures c.in-Form.form
    due (string_bytes c.in-Some.names) order.limit ds c.args.from.now c.scan_named.new.from c.args.out.now c.scan_named.new.out
    c.scan_named.result) c.is_headed.ensures by_text in
    subst (λ names. ScansAs g.S.Source.to_come g.S.Source.failures g.K.Sink.contents g.K.Sink.failures order.strict profile form
    (is_headed order.file) names given order.limit word c.args.from.now c.scan_named.new.from c.args.out.now c.scan_named.new.out
    c.scan_named.result) (sym (ap (option_map string_bytes) c.in-Some.is))
    (written_named g.S.Source.to_come g.S.Source.failures g.K.Sink.contents g.K.Sink.failures profile order.strict form c.in-Form.form
    (is_headed order.file) (string_bytes c.in-Some.names) given order.limit word c.args.scan.now
    (subst (IsWriting profile form given) c.in-Form.is is) scans c.args.from.now c.scan_named.new.from c.args.out.now
    c.scan_named.new.out c.scan_named.result named)
