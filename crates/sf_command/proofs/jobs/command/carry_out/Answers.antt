use Rattle.std.proofs.Common.{map, string_bytes}
use Rattle.sf_command.specs.jobs.Commands.{form_of, grammar_of, reading_of}
use Rattle.sf_command.proofs.JobLemmas.Working.{none_does}
use Rattle.sf_command.proofs.jobs.command.carry_out.Goals as goal

pub returns-in-Err : goal.returns-in-Err
returns-in-Err g c =
    let order = c.args.order.now in
    none_does g.S.Source.to_come g.S.Source.failures g.K.Sink.contents g.K.Sink.failures (grammar_of order.profile)
    (form_of order.output) (reading_of order.raw) order order.verb (map string_bytes order.texts.items) c.in-Err.refused.word.now
    c.in-Err.refused.fault c.in-Err.ensures.err c.args.from.now c.args.out.now
