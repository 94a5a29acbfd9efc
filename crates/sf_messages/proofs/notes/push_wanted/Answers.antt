use Rattle.std.proofs.Common.{◌≡◌, ◌++◌, OnOk, subst}
use Rattle.sf_messages.specs.Notes.{wanted_note}
use Rattle.sf_messages.proofs.notes.push_wanted.Goals as goal

pub returns : goal.returns
returns c =
    subst (λ range. OnOk c.push_numbered.result (c.push_numbered.new.output.items
    ≡ c.args.output.now.items ++ wanted_note c.args.number range)) c.as_bytes.ensures.value c.push_numbered.ensures
