use Rattle.std.proofs.Common.{◌≡◌, ◌∙◌, ◌++◌, ℕ, List, refl, subst}
use Rattle.sf_messages.specs.Texts.{error_line}
use Rattle.sf_command.specs.console.Saying.{Says}
use Rattle.sf_command.proofs.console.ends.end.Goals as goal

pub returns-in-Err : goal.returns-in-Err
returns-in-Err g c =
    let line : c.as_bytes.result.now ≡ error_line c.in-Err.fault =
    c.as_bytes.ensures.value ∙ c.as_str.ensures.value ∙ c.error_line.ensures in
    let said : List ℕ → Type 0 =
    λ text. Says g.C.Console.Hands g.C.Console.said g.C.Console.unsaid
    (text ++ c.args.notes.now) c.args.out.now c.tell.new.out c.args.err.now c.tell.new.err in
    rw c.in-Err.is (subst said line c.tell.ensures, refl)
