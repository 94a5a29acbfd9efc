use Rattle.std.proofs.Common.{None, Err, map, string_bytes, subst}
use Rattle.sf_command.specs.jobs.Commands.{form_of, grammar_of, reading_of}
use Rattle.sf_command.proofs.JobLemmas.Working.{none_does}
use Rattle.sf_command.specs.entry.Exits.{EndsRefused}
use Rattle.sf_command.proofs.NoteLemmas.Explaining.{more_of_none}
use Rattle.sf_command.proofs.entry.invocation.run_records.Goals as goal

pub returns-in-Err : goal.returns-in-Err
returns-in-Err g c =
    let order = c.args.order.now in
    let fault = c.in-Err.refused.fault in
    let word = c.in-Err.refused.word.now in
    let none = c.in-Err.ensures.err in
    let from = c.args.from.now in
    let out = c.args.out.now in
    let ended = subst (λ (s : _). EndsRefused g.C.Console.Hands g.C.Console.said g.C.Console.unsaid c.args.watched c.args.explain
    (g.R.Reasons.why_unread s) (g.C.Console.why out) order word fault out c.end_refused.new.out c.args.err.now c.end_refused.new.err
    c.end_refused.result) c.source.ensures c.end_refused.ensures in
    let (notes, says, ends) = ended in
    let does = none_does g.S.Source.to_come g.S.Source.failures g.K.Sink.contents g.K.Sink.failures (grammar_of order.profile)
    (form_of order.output) (reading_of order.raw) order order.verb (map string_bytes order.texts.items) word fault none from out in
    (Err fault, (out, does, (notes, more_of_none c.args.explain order None from.held notes word fault none says, ends)))
