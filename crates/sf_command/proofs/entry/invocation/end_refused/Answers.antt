use Rattle.std.proofs.Common.{subst}
use Rattle.sf_command.specs.console.Ends.{EndsFailed}
use Rattle.sf_command.proofs.entry.invocation.end_refused.Goals as goal

pub returns : goal.returns
returns g c = (
  c.notes_of_refused-notes.result.items,
  c.notes_of_refused-notes.ensures,
  subst (λ told. EndsFailed g.C.Console.Hands g.C.Console.said g.C.Console.unsaid c.args.watched c.args.explain
      (g.R.Reasons.why_unread c.args.source.now) (g.C.Console.why c.args.out.now) c.args.order.now told c.args.refused.fault
      c.args.out.now c.end_known.new.out c.args.err.now c.end_known.new.err c.end_known.result) c.deref.ensures.value
      c.end_known.ensures,
)
