use Rattle.std.proofs.Common.{◌∙◌, ap, map, string_bytes, subst}
use Rattle.std.specs.Prelude.{option_map}
use Rattle.sf_command.specs.jobs.Jobs.{IsJobBy}
use Rattle.sf_command.proofs.JobLemmas.Working.{check_does, copy_does, print_does, rest_shown, show_does}
use Rattle.sf_command.proofs.jobs.command.run_by.Goals as goal

pub returns-in-Show-clause-does : goal.returns-in-Show-clause-does
returns-in-Show-clause-does g c =
    let order = c.args.order.now in
    let texts = map string_bytes order.texts.items in
    let is = subst (λ job. IsJobBy order.strict c.args.profile c.args.form (option_map string_bytes order.print) job order.verb texts)
    c.in-Show.is
    c.requires.job in
    show_does g.S.Source.to_come g.S.Source.failures g.K.Sink.contents g.K.Sink.failures c.args.profile c.args.form c.args.how order
    c.in-Show.scan order.verb texts is c.args.from.now c.args.out.now c.show_by.new.out c.show_by.result c.show_by.ensures.shows
    c.show_by.ensures.unwritten c.show_by.ensures.failures

pub returns-in-Print-clause-does : goal.returns-in-Print-clause-does
returns-in-Print-clause-does g c =
    let order = c.args.order.now in
    let texts = map string_bytes order.texts.items in
    let is = subst (λ job. IsJobBy order.strict c.args.profile c.args.form (option_map string_bytes order.print) job order.verb texts)
    c.in-Print.is
    c.requires.job in
    print_does g.S.Source.to_come g.S.Source.failures g.K.Sink.contents g.K.Sink.failures c.args.profile c.args.form c.args.how order
    c.in-Print.print order.verb texts is (map string_bytes c.after_first.result.now)
    (ap (map string_bytes) c.after_first.ensures ∙ rest_shown string_bytes c.deref.result.now order.texts.items c.deref.ensures.value)
    c.args.from.now c.args.out.now c.print_by.new.out c.print_by.result c.print_by.ensures.prints c.print_by.ensures.unwritten
    c.print_by.ensures.failures

pub returns-in-Check-clause-does : goal.returns-in-Check-clause-does
returns-in-Check-clause-does g c =
    let order = c.args.order.now in
    let texts = map string_bytes order.texts.items in
    let is = subst (λ job. IsJobBy order.strict c.args.profile c.args.form (option_map string_bytes order.print) job order.verb texts)
    c.in-Check.is
    c.requires.job in
    check_does g.S.Source.to_come g.S.Source.failures g.K.Sink.contents g.K.Sink.failures c.args.profile c.args.form c.args.how order
    c.in-Check.print c.in-Check.scan c.in-Check.verdict order.verb texts is c.args.from.now c.args.out.now c.tell_verdict.new.out
    c.tell_verdict.result c.tell_verdict.ensures.tells c.tell_verdict.ensures.unwritten c.tell_verdict.ensures.failures

pub returns-in-Copy-clause-does : goal.returns-in-Copy-clause-does
returns-in-Copy-clause-does g c =
    let order = c.args.order.now in
    let texts = map string_bytes order.texts.items in
    let is = subst (λ job. IsJobBy order.strict c.args.profile c.args.form (option_map string_bytes order.print) job order.verb texts)
    c.in-Copy.is
    c.requires.job in
    copy_does g.S.Source.to_come g.S.Source.failures g.K.Sink.contents g.K.Sink.failures c.args.profile c.args.form c.args.how order
    c.in-Copy.print c.in-Copy.scan order.verb texts is c.args.from.now c.copy_by.new.from c.args.out.now c.copy_by.new.out
    c.copy_by.result c.copy_by.ensures.copies c.copy_by.ensures.unread c.copy_by.ensures.failures
