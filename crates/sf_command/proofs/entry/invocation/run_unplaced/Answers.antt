use Rattle.std.proofs.Common.{◌≡◌, ◌∙◌, None, Ok, ap, subst, sym}
use Rattle.sf_read.specs.source.Ahead.{Ahead}
use Rattle.sf_command.specs.entry.Exits.{Does, DoesOrder, is_explained, unread_of}
use Rattle.sf_command.proofs.EntryLemmas.Carrying.{does_order, over, over_fresh}
use Rattle.sf_command.proofs.entry.invocation.run_unplaced.Goals as goal

pub returns-clause-does : goal.returns-clause-does
returns-clause-does g c =
    let order = c.args.order.now in
    let before = c.new-ahead.result in
    let after = c.run_order-answer.new.from in
    let fresh : over (λ s. s.source) before ≡ unread_of c.args.from =
    over_fresh (λ s. s.source) before c.args.from c.new-ahead.ensures.held
    (ap (λ s. s.source) c.new-ahead.ensures.source ∙ c.new.ensures) c.new-ahead.ensures.fresh in
    let does = subst (λ explain.
    DoesOrder g.K.Sink.contents g.K.Sink.failures g.C.Console.Hands g.C.Console.said g.C.Console.unsaid (λ s. g.R.Source.to_come s.source)
    (λ s. g.R.Source.failures s.source) (λ s. g.Q.Reasons.why_unread s.source) g.C.Console.why c.args.watched explain order.lines order
    None before after c.args.out.now c.run_order-answer.new.out c.args.err.now c.run_order-answer.new.err c.run_order-answer.result)
    c.is_explained-explain.ensures c.run_order-answer.ensures in
    record {
      left = over (λ s. s.source) after;
      place = None;
      done = subst (λ (a : Ahead _). Does g.K.Sink.contents g.K.Sink.failures g.C.Console.Hands g.C.Console.said g.C.Console.unsaid
          g.R.Source.to_come g.R.Source.failures g.Q.Reasons.why_unread g.C.Console.why c.args.watched (Ok order) None a
          (over (λ s. s.source) after) c.args.out.now c.run_order-answer.new.out c.args.err.now c.run_order-answer.new.err
          c.run_order-answer.result) fresh
          (does_order (λ s. s.source) g.K.Sink.contents g.K.Sink.failures g.C.Console.Hands g.C.Console.said g.C.Console.unsaid
          g.R.Source.to_come g.R.Source.failures g.Q.Reasons.why_unread g.C.Console.why c.args.watched
          (is_explained c.args.watched order.notes) order.lines order None before after c.args.out.now c.run_order-answer.new.out
          c.args.err.now c.run_order-answer.new.err c.run_order-answer.result does);
      placed = tt;
      back = sym (c.into_source-2.ensures.source ∙ ap (λ s. s.source) c.into_source.ensures.source);
      few = c.into_source.ensures.few;
    }
