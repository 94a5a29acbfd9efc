use Rattle.std.proofs.Common.{◌≡◌, ◌∙◌, subst}
use Rattle.sf_print.specs.blocks.Blocks.{faults_of, handed_to}
use Rattle.sf_messages.specs.Texts.{error_line}
use Rattle.sf_command.specs.console.Saying.{SaysText}
use Rattle.sf_command.proofs.entry.program.say_fault.Goals as goal

pub returns : goal.returns
returns g c =
    let line : c.as_bytes.result.now ≡ error_line c.args.fault = c.as_bytes.ensures.value ∙ c.as_str.ensures.value ∙ c.error_line.ensures in
    subst (λ text. SaysText (handed_to g.E.Write) faults_of text c.args.errors.now c.say_text.new.errors) line c.say_text.ensures
