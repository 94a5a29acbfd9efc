use Rattle.std.proofs.Common.{◌≡◌, ◌∙◌, None, Some, [], Err, ap, subst, sym}
use Rattle.std.specs.Prelude.{IfErr}
use Rattle.sf_messages.specs.declared.fault.CommandFault.{CommandFault}
use Rattle.sf_messages.specs.declared.fault.CommandFault.TheVariants.{Pair}
use Rattle.sf_command.specs.jobs.Answers.{Answer}
use Rattle.sf_command.specs.jobs.CopyFormats.{IsOwnUnpaired}
use Rattle.sf_command.specs.notes.Explains.{SaysMore, verdict_notes}
use Rattle.sf_command.proofs.NoteLemmas.Explaining.{ByParts, more_of_copies}
use Rattle.sf_command.proofs.notes.explain.notes_of_copies.Goals as goal

pub returns-in-Ok : goal.returns-in-Ok
returns-in-Ok c =
    let order = c.args.order.now in
    let formats = c.args.formats.now in
    let fault = c.in-Err-Pair.fault in
    let notes = c.in-Ok.notes.items in
    let inner = rw c.in-Err-Pair.is at c.in-Err-Pair.field-0-is in
    let ends : c.args.answer ≡ Err (Pair fault) = c.in-Err-Pair.is ∙ ap (λ (f : CommandFault). let a : Answer = Err f in a) inner in
    let own = subst (λ (a : Answer). IfErr a (IsOwnUnpaired formats)) ends c.requires.own in
    let says = subst (λ p. ByParts p formats.scan (λ pieces. verdict_notes formats.print pieces formats.scan.format (Some fault)) notes)
    c.grammar_of-profile.ensures c.in-Ok.ensures in
    subst (λ (a : Answer). SaysMore c.args.explain order None [] a notes) (sym ends)
    (more_of_copies c.args.explain order c.if-not-explain.false formats fault c.requires.formats own notes says)
