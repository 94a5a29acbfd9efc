use Rattle.std.proofs.Common.{◌≡◌, ◌∙◌, false, inr, subst, sym}
use Rattle.sf_print.specs.blocks.Blocks.{faults_of, handed_to}
use Rattle.sf_messages.specs.Texts.{error_line}
use Rattle.sf_messages.specs.declared.fault.CommandFault.TheVariants.{Write}
use Rattle.sf_command.specs.reasons.Faults.{IsWithReason, is_unheard}
use Rattle.sf_command.proofs.ReasonLemmas.Alone.{alone}
use Rattle.sf_command.specs.console.Saying.{SaysText}
use Rattle.sf_command.proofs.entry.program.say_unwritten.Goals as goal

pub returns-in-Some : goal.returns-in-Some
returns-in-Some g c =
    let heard : is_unheard c.args.telling.watched c.args.why Write ≡ false = sym c.is_unheard.ensures ∙ c.if-is_unheard.false in
    let line : c.as_bytes-line.result.now ≡ error_line Write =
    c.as_bytes-line.ensures.value ∙ c.as_str.ensures.value ∙ c.error_line-line.ensures in
    inr (
      heard,
      (
        c.in-Some.text.items,
        subst (λ text. IsWithReason c.args.telling.explain c.args.why text c.in-Some.text.items) line c.in-Some.ensures,
        subst (λ text. SaysText (handed_to g.E.Write) faults_of text c.args.errors.now c.say_text.new.errors) c.deref.ensures.value
            c.say_text.ensures,
      ),
    )

pub returns-in-None : goal.returns-in-None
returns-in-None g c =
    let heard : is_unheard c.args.telling.watched c.args.why Write ≡ false = sym c.is_unheard.ensures ∙ c.if-is_unheard.false in
    let line : c.as_bytes-line.result.now ≡ error_line Write =
    c.as_bytes-line.ensures.value ∙ c.as_str.ensures.value ∙ c.error_line-line.ensures in
    inr (
      heard,
      (
        error_line Write,
        alone c.args.telling.explain c.args.why (error_line Write),
        subst (λ text. SaysText (handed_to g.E.Write) faults_of text c.args.errors.now c.say_text-in-None.new.errors) line
            c.say_text-in-None.ensures,
      ),
    )
