use Rattle.std.proofs.Common.{◌≡◌, ◌∙◌, ℕ, List, ap}
use Rattle.std.specs.Prelude.{option_map}
use Rattle.sf_forms.specs.Columns.{name_at}
use Rattle.sf_messages.specs.Texts.{name_twice_line}
use Rattle.sf_command.specs.jobs.Heads.{split}
use Rattle.sf_command.proofs.console.ends.named_line.Goals as goal

pub returns-in-Ok-name_twice_line : goal.returns-in-Ok-name_twice_line
returns-in-Ok-name_twice_line c =
    let text = c.in-Some.text.now in
    let number = c.in-NameTwice.number in
    let said : c.name.result.now ≡ name_at (split text) number =
    c.name.ensures ∙ ap (λ (names : List (List ℕ)). name_at names number) c.in-Ok.ensures.split in
    let line : c.in-Ok-name_twice_line.line.items ≡ name_twice_line (name_at (split text) number) =
    c.in-Ok-name_twice_line.ensures ∙ ap (λ (name : List ℕ). name_twice_line name) said in
    (text, ap (option_map (λ given. given.now)) c.in-Some.is, (number, c.in-NameTwice.is, line))
