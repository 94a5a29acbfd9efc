use Rattle.std.proofs.Common.{Ok, rules, subst}
use Rattle.sf_command.specs.entry.Exits.{DoesOn}
use Rattle.sf_command.proofs.EntryLemmas.Carrying.{does_on}
use Rattle.sf_command.proofs.entry.invocation.run_source.Goals as goal

-- what is behind the reference that is given back is what the source is then
pub returns-in-None : goal.returns-in-None
returns-in-None g c =
    let order = c.args.order.now in
    subst (λ (s : _). DoesOn g.K.Sink.contents g.K.Sink.failures g.C.Console.Hands g.C.Console.said g.C.Console.unsaid
    g.S.Source.to_come g.S.Source.failures g.C.Reasons.why_unread g.C.Console.why c.args.watched (Ok order) c.args.from.now s
    c.args.out.now c.run_placed.new.out c.args.err.now c.run_placed.new.err c.run_placed.result.answer) (search rules)
    (does_on (λ s. s.now) g.K.Sink.contents g.K.Sink.failures g.C.Console.Hands g.C.Console.said g.C.Console.unsaid
    g.S.Source.to_come g.S.Source.failures g.C.Reasons.why_unread g.C.Console.why c.args.watched order _ c.run_placed.result.source
    c.args.out.now c.run_placed.new.out c.args.err.now c.run_placed.new.err c.run_placed.result.answer c.run_placed.ensures.does)

pub returns-in_default : goal.returns-in_default
returns-in_default g c =
    let order = c.args.order.now in
    subst (λ (s : _). DoesOn g.K.Sink.contents g.K.Sink.failures g.C.Console.Hands g.C.Console.said g.C.Console.unsaid
    g.S.Source.to_come g.S.Source.failures g.C.Reasons.why_unread g.C.Console.why c.args.watched (Ok order) c.args.from.now s
    c.args.out.now c.run_unplaced.new.out c.args.err.now c.run_unplaced.new.err c.run_unplaced.result.answer) (search rules)
    (does_on (λ s. s.now) g.K.Sink.contents g.K.Sink.failures g.C.Console.Hands g.C.Console.said g.C.Console.unsaid
    g.S.Source.to_come g.S.Source.failures g.C.Reasons.why_unread g.C.Console.why c.args.watched order _ c.run_unplaced.result.source
    c.args.out.now c.run_unplaced.new.out c.args.err.now c.run_unplaced.new.err c.run_unplaced.result.answer c.run_unplaced.ensures.does)
